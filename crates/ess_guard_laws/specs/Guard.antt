-- Undefined terms done away with by conditions alone. A Boolean b over terms that may have nothing becomes
-- `or([b | c1, .., cn])`, where c1, .., cn say, each under those before it, that the terms directly under b have values. No term
-- changes but for the Booleans inside it, and no operator does. Connectives are treated operand by operand.
use Rattle.std.specs.Prelude.{Bool, true, false, ◌&&◌, ◌||◌, not, if◌then◌else◌, List, [], ◌++◌, is_some}
use Rattle.ess_semantics.specs.declared.words.Op1.{Op1}
use Rattle.ess_semantics.specs.declared.words.Op2.{Op2}
use Rattle.ess_semantics.specs.Values.{Text}
use Rattle.ess_semantics.specs.Names.{Names}
use Rattle.ess_semantics.specs.Trees.{Op, unary, binary, Ex, Exs, number_ex, truth_ex, name_ex, node_ex, matrix_ex, comp_ex, cell_ex, seen_ex, no_exs, more_exs, Gens, no_gens, over, from, cond, Dom, Doms, bool_dom, int_dom, name_dom, tuple_dom, record_dom, matrix_dom, set_dom, mset_dom, function_dom, relation_dom, partition_dom, no_doms, more_doms}
use Rattle.ess_semantics.specs.Operators.{connective}
use Rattle.ess_guard_laws.specs.Origins.{Origin, with_any, with_over, known_behind}
use Rattle.ess_guard_laws.specs.Conditions.{chained, summed, all_of, every, given_that, matrix_conditions, own}

-- ---- natural places

-- Whether the operator compares. Its operands are natural places, where they are numbers.
abbrev pub compares : Op → Bool
compares (binary Op2.Eq) = true
compares (binary Op2.Ne) = true
compares (binary Op2.Lt) = true
compares (binary Op2.Le) = true
compares (binary Op2.Gt) = true
compares (binary Op2.Ge) = true
compares op = false

-- Whether the operator is one on numbers, whose operands stand in natural places where it does.
abbrev pub counts : Op → Bool
counts (unary Op1.Minus) = true
counts (unary Op1.Bar) = true
counts (binary Op2.Plus) = true
counts (binary Op2.Minus) = true
counts (binary Op2.Times) = true
counts (binary Op2.Div) = true
counts (binary Op2.Mod) = true
counts (binary Op2.Pow) = true
counts op = false

-- Whether the operator may have nothing in a natural place: a quotient, a remainder, a power.
abbrev pub is_plain : Op → Bool
is_plain (binary Op2.Div) = true
is_plain (binary Op2.Mod) = true
is_plain (binary Op2.Pow) = true
is_plain op = false

-- Whether an operator treats its operands one by one, or reads what they are.
abbrev pub connects : Op → Bool
connects op = is_some (connective op)

-- ---- trees

-- Whether natural places count, and two reserved names.
module _ (natural : Bool) (x y : Text) where
  -- An operator's own conditions, where w says that it stands in a natural place.
  abbrev pub own_at : Names Origin → Bool → Op → Exs → List Ex
  own_at k w op es = if w && is_plain op then [] else own k x y op es

  -- Whether the operands of a Boolean stand in natural places.
  abbrev pub opens : Op → Bool
  opens op = natural && compares op

  -- Whether the operands of a term do that stands in one.
  abbrev pub passes : Bool → Op → Bool
  passes w op = w && counts op

  abbrev mutual
    -- The tree with each Boolean in it made total, under what is known of names.
    pub guarded : Names Origin → Ex → Ex
    guarded k (number_ex n) = number_ex n
    guarded k (truth_ex b) = truth_ex b
    guarded k (name_ex a) = name_ex a
    guarded k (node_ex b op es) =
        if b && not (connects op) then
        chained (conditions_all k (opens op) es ++ own k x y op (guarded_all k es))
        (node_ex true op (guarded_all k es)) else
        node_ex b op (guarded_all k es)
    guarded k (matrix_ex es d) = matrix_ex (guarded_all k es) (guarded_dom k d)
    guarded k (comp_ex e gs) = comp_ex (guarded (known_behind gs k) e) (guarded_gens k gs)
    guarded k (cell_ex b n es) =
        if b then chained (conditions_all k false es) (cell_ex true n (guarded_all k es)) else cell_ex false n (guarded_all k es)
    guarded k (seen_ex r d ns es) = seen_ex r d ns es

    -- The same of operands.
    pub guarded_all : Names Origin → Exs → Exs
    guarded_all k no_exs = no_exs
    guarded_all k (more_exs e es) = more_exs (guarded k e) (guarded_all k es)

    -- The same of generators.
    pub guarded_gens : Names Origin → Gens → Gens
    guarded_gens k no_gens = no_gens
    guarded_gens k (over p d gs) = over p (guarded_dom k d) (guarded_gens (with_over p d k) gs)
    guarded_gens k (from p e gs) = from p (guarded k e) (guarded_gens (with_any p k) gs)
    guarded_gens k (cond c gs) = cond (guarded k c) (guarded_gens k gs)

    -- The same of a domain.
    pub guarded_dom : Names Origin → Dom → Dom
    guarded_dom k bool_dom = bool_dom
    guarded_dom k (int_dom rs es) = int_dom rs (guarded_all k es)
    guarded_dom k (name_dom a) = name_dom a
    guarded_dom k (tuple_dom ds) = tuple_dom (guarded_doms k ds)
    guarded_dom k (record_dom fs ds) = record_dom fs (guarded_doms k ds)
    guarded_dom k (matrix_dom is d) = matrix_dom (guarded_doms k is) (guarded_dom k d)
    guarded_dom k (set_dom ms es d) = set_dom ms (guarded_all k es) (guarded_dom k d)
    guarded_dom k (mset_dom ms es d) = mset_dom ms (guarded_all k es) (guarded_dom k d)
    guarded_dom k (function_dom ms es d c) = function_dom ms (guarded_all k es) (guarded_dom k d) (guarded_dom k c)
    guarded_dom k (relation_dom ms es ds) = relation_dom ms (guarded_all k es) (guarded_doms k ds)
    guarded_dom k (partition_dom ms es d) = partition_dom ms (guarded_all k es) (guarded_dom k d)

    -- The same of several domains.
    pub guarded_doms : Names Origin → Doms → Doms
    guarded_doms k no_doms = no_doms
    guarded_doms k (more_doms d ds) = more_doms (guarded_dom k d) (guarded_doms k ds)

    -- The conditions under which a term has a value, where w says that it stands in a natural place. Booleans, numbers, names
    -- and views ask for nothing.
    pub conditions : Names Origin → Bool → Ex → List Ex
    conditions k w (number_ex n) = []
    conditions k w (truth_ex b) = []
    conditions k w (name_ex a) = []
    conditions k w (node_ex b op es) =
        if b || connects op then [] else
        conditions_all k (passes w op) es ++ own_at k w op (guarded_all k es)
    conditions k w (matrix_ex es d) = conditions_all k false es ++ (conditions_dom k d ++ matrix_conditions x es (guarded_dom k d))
    conditions k w (comp_ex e gs) = conditions_gens k gs (conditions (known_behind gs k) false e)
    conditions k w (cell_ex b n es) = if b then [] else conditions_all k false es
    conditions k w (seen_ex r d ns es) = []

    -- The same of operands, one behind the other.
    pub conditions_all : Names Origin → Bool → Exs → List Ex
    conditions_all k w no_exs = []
    conditions_all k w (more_exs e es) = conditions k w e ++ conditions_all k w es

    -- The conditions of generators, one by one, and of what stands behind them, whose conditions are cs.
    pub conditions_gens : Names Origin → Gens → List Ex → List Ex
    conditions_gens k no_gens cs = cs
    conditions_gens k (over p d gs) cs =
        conditions_dom k d ++ every (over p (guarded_dom k d) no_gens) (conditions_gens (with_over p d k) gs cs)
    conditions_gens k (from p e gs) cs = conditions k false e ++ every (from p (guarded k e) no_gens) (conditions_gens (with_any p k) gs cs)
    conditions_gens k (cond c gs) cs = given_that (guarded k c) (conditions_gens k gs cs)

    -- The conditions of the numbers of a domain.
    pub conditions_dom : Names Origin → Dom → List Ex
    conditions_dom k bool_dom = []
    conditions_dom k (int_dom rs es) = conditions_all k false es
    conditions_dom k (name_dom a) = []
    conditions_dom k (tuple_dom ds) = conditions_doms k ds
    conditions_dom k (record_dom fs ds) = conditions_doms k ds
    conditions_dom k (matrix_dom is d) = conditions_doms k is ++ conditions_dom k d
    conditions_dom k (set_dom ms es d) = conditions_all k false es ++ conditions_dom k d
    conditions_dom k (mset_dom ms es d) = conditions_all k false es ++ conditions_dom k d
    conditions_dom k (function_dom ms es d c) = conditions_all k false es ++ (conditions_dom k d ++ conditions_dom k c)
    conditions_dom k (relation_dom ms es ds) = conditions_all k false es ++ conditions_doms k ds
    conditions_dom k (partition_dom ms es d) = conditions_all k false es ++ conditions_dom k d

    -- The same of several domains.
    pub conditions_doms : Names Origin → Doms → List Ex
    conditions_doms k no_doms = []
    conditions_doms k (more_doms d ds) = conditions_dom k d ++ conditions_doms k ds

-- ---- what the rest of the rules call

-- x and y are reserved names.
module _ (x y : Text) where
  -- The conditions under which a term has a value.
  abbrev pub there : Ex → List Ex
  there e = conditions false x y [] false e

  -- A Boolean that is total and means the same.
  abbrev pub make_total : Ex → Ex
  make_total b = guarded false x y [] b

  -- The same where quotients, remainders and powers may have nothing in natural places.
  abbrev pub make_natural : Ex → Ex
  make_natural b = guarded true x y [] b

  -- That a term has a value.
  abbrev pub has_value : Ex → Ex
  has_value e = all_of (there e)

  -- The two answers for a term: that it has a value, and the term, which is total where it has one. A number stands under
  -- its conditions.
  abbrev pub make_total_term : Bool → Ex → Ex × Ex
  make_total_term is_int e = (has_value e, if is_int then summed (there e) (make_total e) else make_total e)
