-- What stands in the place of names over tables: views of givens and finds, positions of the values of enumerated types, and ranges
-- of positions for named types. The right operand of `in` takes the last view of a name, all else the first. A scalar is a cell. What a
-- declared domain or size binds is told apart first, each with reserved names of its own: a later given or find may have the name of a
-- bound one, and views may stand in one another's domains.
use Rattle.std.specs.Prelude.{ℕ, suc, false, List, [], ◌∷◌, ◌++◌, map, length, filter, pos, Some, None}
use Rattle.ess_semantics.specs.declared.words.Op2.{Op2}
use Rattle.ess_semantics.specs.declared.words.ReprKind.{ReprKind}
use Rattle.ess_semantics.specs.Lists.{or_default}
use Rattle.ess_semantics.specs.Values.{Text}
use Rattle.ess_semantics.specs.Names.{Names, look, keys}
use Rattle.ess_semantics.specs.Trees.{binary, repr, Ex, Exs, number_ex, truth_ex, name_ex, node_ex, matrix_ex, comp_ex, cell_ex, seen_ex, no_exs, more_exs, Gens, no_gens, over, from, cond, Dom, Doms, bool_dom, int_dom, name_dom, tuple_dom, record_dom, matrix_dom, set_dom, mset_dom, function_dom, relation_dom, partition_dom, no_doms, more_doms, Stm, given, given_enum, let_enum, let_unnamed, find}
use Rattle.ess_semantics.specs.Meaning.{is_bool_dom}
use Rattle.ess_semantics.specs.Prepared.{prepared}
use Rattle.ess_semantics.specs.Plans.{Options, Plan, size_plan, value_plan, plans, is_plan_for}
use Rattle.ess_repr_laws.specs.StructureParts.{upto}
use Rattle.conjure_laws.specs.ModelsOfSets.{size_name}
use Rattle.conjure_model_laws.specs.ToldApart.{told, told_dom}

-- The first view of each given and find, and the last one, each with the positions of values; the number of values of each type; the
-- domain of each given and find over tables; and the number of the next reserved name.
pub record Shows : Type 0 where
  pub first : Names Ex
  pub last : Names Ex
  pub sizes : Names Ex
  pub doms : Names Dom
  pub next : ℕ

-- Nothing is declared. Two reserved names are kept for conditions.
abbrev pub shows_nothing : Shows
shows_nothing = record { first = []; last = []; sizes = []; doms = []; next = 2 }

-- What stands for a name, else the name.
abbrev pub in_place : Names Ex → Text → Ex
in_place vs a = or_default (look vs a) (name_ex a)

-- The positions of a named type, from 1 to the number of its values.
abbrev pub range_of_type : Names Ex → Text → Dom
range_of_type ss t = elim (look ss t) [ Some e ↦ upto e | None ↦ name_dom t ]

-- ---- trees

module _ (sh : Shows) where
  abbrev mutual
    -- The tree over tables.
    pub shown : Ex → Ex
    shown (number_ex n) = number_ex n
    shown (truth_ex b) = truth_ex b
    shown (name_ex a) = in_place sh.first a
    shown (node_ex b (binary Op2.Member) (more_exs e (more_exs (name_ex a) no_exs))) =
        node_ex b (binary Op2.Member) (more_exs (shown e) (more_exs (in_place sh.last a) no_exs))
    shown (node_ex b op es) = node_ex b op (shown_all es)
    shown (matrix_ex es d) = matrix_ex (shown_all es) (shown_dom d)
    shown (comp_ex e gs) = comp_ex (shown e) (shown_gens gs)
    shown (cell_ex b n es) = cell_ex b n (shown_all es)
    shown (seen_ex r d ns es) = seen_ex r d ns es

    -- The same of operands.
    pub shown_all : Exs → Exs
    shown_all no_exs = no_exs
    shown_all (more_exs e es) = more_exs (shown e) (shown_all es)

    -- The same of generators.
    pub shown_gens : Gens → Gens
    shown_gens no_gens = no_gens
    shown_gens (over p d gs) = over p (shown_dom d) (shown_gens gs)
    shown_gens (from p e gs) = from p (shown e) (shown_gens gs)
    shown_gens (cond e gs) = cond (shown e) (shown_gens gs)

    -- The same of a domain.
    pub shown_dom : Dom → Dom
    shown_dom bool_dom = bool_dom
    shown_dom (int_dom rs es) = int_dom rs (shown_all es)
    shown_dom (name_dom t) = range_of_type sh.sizes t
    shown_dom (tuple_dom ds) = tuple_dom (shown_doms ds)
    shown_dom (record_dom fs ds) = record_dom fs (shown_doms ds)
    shown_dom (matrix_dom is d) = matrix_dom (shown_doms is) (shown_dom d)
    shown_dom (set_dom ms es d) = set_dom ms (shown_all es) (shown_dom d)
    shown_dom (mset_dom ms es d) = mset_dom ms (shown_all es) (shown_dom d)
    shown_dom (function_dom ms es d c) = function_dom ms (shown_all es) (shown_dom d) (shown_dom c)
    shown_dom (relation_dom ms es ds) = relation_dom ms (shown_all es) (shown_doms ds)
    shown_dom (partition_dom ms es d) = partition_dom ms (shown_all es) (shown_dom d)

    -- The same of several domains.
    pub shown_doms : Doms → Doms
    shown_doms no_doms = no_doms
    shown_doms (more_doms d ds) = more_doms (shown_dom d) (shown_doms ds)

-- ---- views

-- The view by a plan whose domain over tables is this one. It mentions only what is declared before.
abbrev pub view_by : Dom → Plan → Ex
view_by c (size_plan t n) = cell_ex false n no_exs
view_by c (value_plan f x (repr ReprKind.Atom rs) d (n ∷ ns)) = cell_ex (is_bool_dom d) n.0 no_exs
view_by c (value_plan f x r d ns) = seen_ex r c (keys ns) no_exs

-- The domain of a plan over tables.
abbrev pub domain_shown : Shows → Plan → Dom
domain_shown sh (size_plan t n) = bool_dom
domain_shown sh (value_plan f x r d ns) = or_default (look sh.doms x) d

-- The last of a list that isn't empty.
abbrev pub last_of : Ex → List Ex → Ex
last_of v [] = v
last_of v (w ∷ ws) = last_of w ws

-- A name with its views.
abbrev pub with_views : Text → List Ex → Shows → Shows
with_views x [] sh = sh
with_views x (v ∷ vs) sh = record sh { first = (x, v) ∷ sh.first; last = (x, last_of v vs) ∷ sh.last }

-- A given or find with its domain, whose bound names are told apart, and with its views.
abbrev pub with_declared : List Plan → Text → Dom → Shows → Shows
with_declared Ps x d sh =
    let q : Dom × ℕ = told_dom d [] sh.next in
    let c : Dom = shown_dom sh q.0 in
    with_views x (map (view_by c) (filter (is_plan_for x) Ps)) (record sh { doms = (x, c) ∷ sh.doms; next = q.1 })

-- An unnamed type with its size, whose bound names are told apart.
abbrev pub with_size : Text → Ex → Shows → Shows
with_size t e sh = let q : Ex × ℕ = told e [] sh.next in record sh { sizes = (t, shown sh q.0) ∷ sh.sizes; next = q.1 }

-- The positions of values, from k on.
abbrev pub positions_from : ℕ → List Text → Names Ex
positions_from k [] = []
positions_from k (n ∷ ns) = (n, number_ex (pos k)) ∷ positions_from (suc k) ns

-- What stands in the place of names behind a statement.
abbrev pub shows_behind : List Plan → Stm → Shows → Shows
shows_behind Ps (given x d) sh = with_declared Ps x d sh
shows_behind Ps (find x d) sh = with_declared Ps x d sh
shows_behind Ps (given_enum t) sh = record sh { sizes = (t, cell_ex false (size_name Ps t) no_exs) ∷ sh.sizes }
shows_behind Ps (let_enum t ns) sh = record sh {
  first = positions_from 1 ns ++ sh.first;
  last = positions_from 1 ns ++ sh.last;
  sizes = (t, number_ex (pos (length ns))) ∷ sh.sizes;
}
shows_behind Ps (let_unnamed t e) sh = with_size t e sh
shows_behind Ps s sh = sh

-- Behind several statements.
abbrev pub shows_from : List Plan → List Stm → Shows → Shows
shows_from Ps [] sh = sh
shows_from Ps (s ∷ ss) sh = shows_from Ps ss (shows_behind Ps s sh)

-- Behind the whole specification.
abbrev pub shows_of : List Stm → Options → Shows
shows_of S o = shows_from (plans S o) (prepared S) shows_nothing
