-- Specifications as trees: expressions, domains, generators, views and statements, after the grammar of the manual.
-- A quantifier is a fold over a comprehension: `forAll x : D . e` is `and([e | x : D])`.
-- The reader gives trees as they are written. Types decide what an index, an application and `image` are: the judgements
-- give a resolved tree beside the read one, in which these nodes say so. Every meaning is that of a resolved tree.
use Rattle.std.specs.Prelude.{ℕ, Bool, true, false, List, [], ◌∷◌, ℤ}
use Rattle.ess_semantics.specs.declared.words.Op1.{Op1}
use Rattle.ess_semantics.specs.declared.words.Op2.{Op2}
use Rattle.ess_semantics.specs.declared.words.Fun.{Fun}
use Rattle.ess_semantics.specs.declared.words.Key.{Key}
use Rattle.ess_semantics.specs.declared.words.ReprKind.{ReprKind}
use Rattle.ess_semantics.specs.Values.{Text}

-- A step of an index. As it is read each step is by a value. Resolved, a step into a matrix is by a value, one into a
-- tuple goes to a component, counted from 1, and one into a record goes to a field.
pub data Step : Type 0 where
  by_value : Step
  to_component : ℕ → Step
  to_field : Text → Step

-- What stands at an operator's node: an operator, a function word, an index, an application, or a literal.
-- The operands of an index are what is indexed and the value of each step that is by a value, in order. Those of an
-- application are the function or relation and its arguments, those of a function literal its pairs, as tuples. A record
-- literal has its fields in written order.
pub data Op : Type 0 where
  unary : Op1 → Op
  binary : Op2 → Op
  word : Fun → Op
  index : List Step → Op
  application : Op
  tuple_literal set_literal mset_literal function_literal relation_literal partition_literal matrix_literal : Op
  record_literal : List Text → Op

-- The form of a range: one value, both bounds, a lower bound alone, an upper bound alone.
pub data Ends : Type 0 where
  one_value both_ends low_end high_end : Ends

-- An attribute without a number, or with one.
pub data Mark : Type 0 where
  flag : Key → Mark
  valued : Key → Mark

mutual
  -- A representation: a way to keep a value, and ways to keep its parts.
  pub data Repr : Type 0 where
    repr : ReprKind → Reprs → Repr

  -- The children of a representation.
  pub data Reprs : Type 0 where
    no_reprs : Reprs
    more_reprs : Repr → Reprs → Reprs

mutual
  -- A pattern that generators bind.
  pub data Pat : Type 0 where
    name_pat : Text → Pat
    tuple_pat : Pats → Pat

  -- Several patterns.
  pub data Pats : Type 0 where
    no_pats : Pats
    more_pats : Pat → Pats → Pats

mutual
  -- An expression. `node_ex b op es` is Boolean where b is true; `plain_node` gives the mark of a tree as it is read.
  -- A matrix literal with an index domain is `matrix_ex`. `cell_ex b n is` is the item of the table n
  -- at `is`, a truth value where b is true. `seen_ex r d ns is` is a view: what the tables ns stand for at `is`.
  pub data Ex : Type 0 where
    number_ex : ℤ → Ex
    truth_ex : Bool → Ex
    name_ex : Text → Ex
    node_ex : Bool → Op → Exs → Ex
    matrix_ex : Exs → Dom → Ex
    comp_ex : Ex → Gens → Ex
    cell_ex : Bool → Text → Exs → Ex
    seen_ex : Repr → Dom → List Text → Exs → Ex

  -- Several expressions.
  pub data Exs : Type 0 where
    no_exs : Exs
    more_exs : Ex → Exs → Exs

  -- Generators over a domain, generators over a value, and conditions, from left to right.
  pub data Gens : Type 0 where
    no_gens : Gens
    over : Pat → Dom → Gens → Gens
    from : Pat → Ex → Gens → Gens
    cond : Ex → Gens → Gens

  -- A domain. The bounds of all ranges, or the numbers of all attributes, stand in one list.
  pub data Dom : Type 0 where
    bool_dom : Dom
    int_dom : List Ends → Exs → Dom
    name_dom : Text → Dom
    tuple_dom : Doms → Dom
    record_dom : List Text → Doms → Dom
    matrix_dom : Doms → Dom → Dom
    set_dom : List Mark → Exs → Dom → Dom
    mset_dom : List Mark → Exs → Dom → Dom
    function_dom : List Mark → Exs → Dom → Dom → Dom
    relation_dom : List Mark → Exs → Doms → Dom
    partition_dom : List Mark → Exs → Dom → Dom

  -- Several domains.
  pub data Doms : Type 0 where
    no_doms : Doms
    more_doms : Dom → Doms → Doms

-- A statement. `needs` is a `where`.
pub data Stm : Type 0 where
  given : Text → Dom → Stm
  given_enum : Text → Stm
  let_ex : Text → Ex → Stm
  let_dom : Text → Dom → Stm
  let_enum : Text → List Text → Stm
  let_unnamed : Text → Ex → Stm
  needs : Ex → Stm
  find : Text → Dom → Stm
  such_that : Ex → Stm
  minimise : Ex → Stm
  maximise : Ex → Stm

-- Whether an operator with one operand gives a truth value.
abbrev pub is_truth_op1 : Op1 → Bool
is_truth_op1 Op1.Not = true
is_truth_op1 _ = false

-- Whether an operator with two operands gives a truth value.
abbrev pub is_truth_op2 : Op2 → Bool
is_truth_op2 Op2.Pow = false
is_truth_op2 Op2.Times = false
is_truth_op2 Op2.Div = false
is_truth_op2 Op2.Mod = false
is_truth_op2 Op2.Intersect = false
is_truth_op2 Op2.Plus = false
is_truth_op2 Op2.Minus = false
is_truth_op2 Op2.Union = false
is_truth_op2 _ = true

-- Whether a function word gives a truth value, whatever its operands are. `image` gives one where its function does,
-- which types decide.
abbrev pub is_truth_word : Fun → Bool
is_truth_word Fun.And = true
is_truth_word Fun.Or = true
is_truth_word Fun.AllDiff = true
is_truth_word Fun.Together = true
is_truth_word _ = false

-- Whether an operator gives a truth value, whatever its operands are. An index and an application give one where their
-- type is bool, which types decide; the reader doesn't say so.
abbrev pub is_truth_op : Op → Bool
is_truth_op (unary o) = is_truth_op1 o
is_truth_op (binary o) = is_truth_op2 o
is_truth_op (word f) = is_truth_word f
is_truth_op _ = false

-- An operator's node as the reader gives it.
abbrev pub plain_node : Op → Exs → Ex
plain_node op es = node_ex (is_truth_op op) op es

-- An operator on one operand, with whether it is Boolean.
pattern abbrev pub ex1 : Bool → Op1 → Ex → Ex
ex1 b o a = node_ex b (unary o) (more_exs a no_exs)

-- An operator on two operands.
pattern abbrev pub ex2 : Bool → Op2 → Ex → Ex → Ex
ex2 b o x y = node_ex b (binary o) (more_exs x (more_exs y no_exs))

-- A function word on one operand.
pattern abbrev pub fun1 : Bool → Fun → Ex → Ex
fun1 b f a = node_ex b (word f) (more_exs a no_exs)

-- A matrix at one index.
pattern abbrev pub at1 : Bool → Ex → Ex → Ex
at1 b a i = node_ex b (index (by_value ∷ [])) (more_exs a (more_exs i no_exs))

-- A function at an argument.
pattern abbrev pub apply1 : Bool → Ex → Ex → Ex
apply1 b f x = node_ex b application (more_exs f (more_exs x no_exs))
