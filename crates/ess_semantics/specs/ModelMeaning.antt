-- The meaning of a model's expressions over numbers and tables, under its declarations. It is the meaning of expressions
-- under tables, made exact for models that have been edited: a name that is neither declared nor bound, a table with
-- another number of indices than axes, and an operator with an operand of another kind have nothing, where truth values
-- and numbers are two kinds. The nearest Boolean is then false. An operator of numbers is one whatever its operands are.
use Rattle.std.specs.Prelude.{Bool, true, false, ◌&&◌, ◌||◌, if◌then◌else◌, List, [], ◌∷◌, map, length, Option, Some, None, nat_eq, is_some}
use Rattle.std.specs.List.{list_all}
use Rattle.ess_semantics.specs.declared.words.Op1.{Op1}
use Rattle.ess_semantics.specs.declared.words.Op2.{Op2}
use Rattle.ess_semantics.specs.declared.words.Fun.{Fun}
use Rattle.ess_semantics.specs.Typing.{statics, type_of_node}
use Rattle.ess_semantics.specs.DeclaredTables.{TableDecl}
use Rattle.ess_semantics.specs.Values.{Text, a_matrix, Value}
use Rattle.ess_semantics.specs.Order.{same_text}
use Rattle.ess_semantics.specs.Names.{Names, look}
use Rattle.ess_semantics.specs.Trees.{Op, unary, binary, word, is_truth_op, plain_node, Ex, Exs, number_ex, truth_ex, name_ex, node_ex, matrix_ex, comp_ex, cell_ex, seen_ex, no_exs, more_exs, Gens, no_gens, over, from, cond, Dom, int_dom}
use Rattle.ess_semantics.specs.Types.{Ty, any_ty, bool_ty, int_ty, compound2, join, type_of_dom, bind_types, or_any}
use Rattle.ess_semantics.specs.OperatorTypes.{member_ty}
use Rattle.ess_semantics.specs.Domains.{Domain}
use Rattle.ess_semantics.specs.Tables.{Table}
use Rattle.ess_semantics.specs.Meaning.{Env, meaning, domain_of, is_bool_dom}

-- ---- kinds

-- An expression with its kind.
abbrev pub Kinded : Type 0
Kinded = Ex × Ty

-- An expression that has nothing, and fits everywhere.
abbrev pub nothing : Kinded
nothing = (name_ex [], any_ty)

-- What stands for an operator or a cell of this kind that has an operand of another kind.
abbrev pub broken : Ty → Kinded
broken bool_ty = (truth_ex false, bool_ty)
broken t = (name_ex [], t)

-- Whether an operator of models gives a number, whatever its operands are.
abbrev pub is_number_op : Op → Bool
is_number_op (unary Op1.Minus) = true
is_number_op (unary Op1.Bar) = true
is_number_op (binary Op2.Pow) = true
is_number_op (binary Op2.Times) = true
is_number_op (binary Op2.Div) = true
is_number_op (binary Op2.Mod) = true
is_number_op (binary Op2.Plus) = true
is_number_op (binary Op2.Minus) = true
is_number_op (word Fun.Sum) = true
is_number_op (word Fun.Product) = true
is_number_op (word Fun.Min) = true
is_number_op (word Fun.Max) = true
is_number_op (word Fun.ToInt) = true
is_number_op op = false

-- The kind of an operator's node, which has the type t where its operands fit.
abbrev pub kind_of_op : Op → Ty → Ty
kind_of_op op t = if is_number_op op then int_ty else (if is_truth_op op then bool_ty else t)

-- Whether the expression is the one that has nothing.
abbrev pub is_nothing : Ex → Bool
is_nothing (name_ex []) = true
is_nothing e = false

-- Whether one of the operands is.
abbrev pub some_nothing : Exs → Bool
some_nothing no_exs = false
some_nothing (more_exs e es) = is_nothing e || some_nothing es

-- A node whose operands have their kinds. Where an operand has nothing so has the node, and the nearest Boolean is false.
abbrev pub kinded_node : Op → Exs → List Ty → Option Ty → Kinded
kinded_node op es ts None = broken (kind_of_op op any_ty)
kinded_node op es ts (Some t) = if some_nothing es then broken (kind_of_op op any_ty) else (plain_node op es, kind_of_op op t)

-- Whether a kind is that of numbers.
abbrev pub is_int_kind : Ty → Bool
is_int_kind t = is_some (join t int_ty)

-- The declaration of a name.
abbrev pub declaration_of : List TableDecl → Text → Option TableDecl
declaration_of [] a = None
declaration_of (d ∷ ds) a = if same_text d.name a then Some d else declaration_of ds a

-- The kind of a cell.
abbrev pub cell_kind : Bool → Ty
cell_kind b = if b then bool_ty else int_ty

-- A cell with its declaration.
abbrev pub kinded_cell : Text → Exs → List Ty → Option TableDecl → Kinded
kinded_cell n es ts None = nothing
kinded_cell n es ts (Some d) =
    if nat_eq (length ts) (length d.axes) && list_all is_int_kind ts then (cell_ex (is_bool_dom d.cell) n es, cell_kind (is_bool_dom d.cell))
    else broken (cell_kind (is_bool_dom d.cell))

-- A bound name with its kind, or nothing.
abbrev pub kinded_name : Text → Option Ty → Kinded
kinded_name a None = nothing
kinded_name a (Some t) = (name_ex a, t)

-- A bound of another kind has nothing.
abbrev pub as_bound : Kinded → Ex
as_bound k = if is_int_kind k.1 then k.0 else name_ex []

-- A comprehension with one more generator in front.
abbrev pub with_gen_ex : (Gens → Gens) → Ex → Ex
with_gen_ex f (comp_ex e gs) = comp_ex e (f gs)
with_gen_ex f e = e

-- The same with the kind.
abbrev pub with_gen : (Gens → Gens) → Kinded → Kinded
with_gen f k = (with_gen_ex f k.0, k.1)

module _ (ds : List TableDecl) where
  abbrev mutual
    -- The expression with what is of the wrong kind replaced, and its kind.
    pub kinded : Ex → Names Ty → Kinded
    kinded (number_ex n) g = (number_ex n, int_ty)
    kinded (truth_ex b) g = (truth_ex b, bool_ty)
    kinded (name_ex a) g = kinded_name a (look g a)
    kinded (node_ex b op es) g =
        let ks : Exs × List Ty = kinded_all es g in
        kinded_node op ks.0 ks.1 (type_of_node op (statics ks.0) (map (λ t. Some t) ks.1))
    kinded (matrix_ex es d) g = nothing
    kinded (comp_ex e gs) g = kinded_under gs g (kinded e)
    kinded (cell_ex b n es) g = let ks : Exs × List Ty = kinded_all es g in kinded_cell n ks.0 ks.1 (declaration_of ds n)
    kinded (seen_ex r d ns es) g = nothing

    -- The same of operands.
    pub kinded_all : Exs → Names Ty → Exs × List Ty
    kinded_all no_exs g = (no_exs, [])
    kinded_all (more_exs e es) g =
        let k : Kinded = kinded e g in let ks : Exs × List Ty = kinded_all es g in (more_exs k.0 ks.0, k.1 ∷ ks.1)

    -- The same of a comprehension: of its generators, and of its body by k.
    pub kinded_under : Gens → Names Ty → (Names Ty → Kinded) → Kinded
    kinded_under no_gens g k = let b : Kinded = k g in (comp_ex b.0 no_gens, compound2 a_matrix int_ty b.1)
    kinded_under (over p d gs) g k = with_gen (λ hs. over p (kinded_dom d g) hs) (kinded_under gs (bind_types p (type_of_dom d) g) k)
    kinded_under (from p e gs) g k =
        let s : Kinded = kinded e g in with_gen (λ hs. from p s.0 hs) (kinded_under gs (bind_types p (or_any (member_ty s.1)) g) k)
    kinded_under (cond e gs) g k = let c : Kinded = kinded e g in with_gen (λ hs. cond c.0 hs) (kinded_under gs g k)

    -- The same of a domain.
    pub kinded_dom : Dom → Names Ty → Dom
    kinded_dom (int_dom rs es) g = int_dom rs (bounds_of es g)
    kinded_dom d g = d

    -- The same of bounds.
    pub bounds_of : Exs → Names Ty → Exs
    bounds_of no_exs g = no_exs
    bounds_of (more_exs e es) g = more_exs (as_bound (kinded e g)) (bounds_of es g)

-- ---- meaning

-- The env of a model: tables alone.
abbrev pub env_of_tables : Names Table → Env
env_of_tables c = record { positions = true; types = []; vals = []; cells = c }

-- The value of an expression over the tables c, under the declarations ds.
abbrev pub model_value : List TableDecl → Names Table → Ex → Option Value
model_value ds c e = meaning (kinded ds e []).0 (env_of_tables c)

-- A declared domain over the tables c.
abbrev pub model_domain : List TableDecl → Names Table → Dom → Option Domain
model_domain ds c d = domain_of (kinded_dom ds d []) (env_of_tables c)
