-- Trees each part of which has a value wherever its context holds, but for numbers in natural places. Natural places are the operands of
-- comparisons, seen through operators on numbers. There an operator on numbers and a cell may have nothing: the comparison above them is
-- false then.
use Rattle.std.specs.Prelude.{Bool, true, false, ◌&&◌, ◌||◌, IsTrue, is_some}
use Rattle.ess_semantics.specs.Names.{look}
use Rattle.ess_semantics.specs.Trees.{Op, Ex, Exs, number_ex, truth_ex, name_ex, node_ex, matrix_ex, comp_ex, cell_ex, seen_ex, no_exs, more_exs, Gens, no_gens, over, from, cond, Dom, Doms, bool_dom, int_dom, name_dom, tuple_dom, record_dom, matrix_dom, set_dom, mset_dom, function_dom, relation_dom, partition_dom, no_doms, more_doms}
use Rattle.ess_semantics.specs.Meaning.{Env, meaning, domain_of, members_in, with_pat}
use Rattle.ess_semantics.specs.Contexts.{EachOf, EachIn, WhenTrue, Guarded, guards}
use Rattle.ess_guard_laws.specs.Guard.{counts}
use Rattle.ess_guard_laws.specs.Supplied.{Unless}
use Rattle.ess_guard_natural_laws.specs.TotalButNatural.{opens_places}

-- Whether a node may have nothing: an operator on numbers in a natural place. A Boolean never has.
abbrev pub lacks : Bool → Bool → Op → Bool
lacks w true op = true
lacks w false op = w && counts op

abbrev mutual
  -- Each part of the expression has a value wherever its context holds. w says that the expression stands in a natural place.
  pub Valued : Bool → Ex → Env → Type 0
  Valued w (number_ex n) env = Unit {0}
  Valued w (truth_ex b) env = Unit {0}
  Valued w (name_ex a) env = IsTrue (is_some (look env.vals a))
  Valued w (node_ex b op es) env =
      Unless (lacks w b op) (IsTrue (is_some (meaning (node_ex b op es) env))) × AllValued (guards op) (opens_places w b op) es env
  Valued w (matrix_ex es d) env = IsTrue (is_some (meaning (matrix_ex es d) env)) × AllValued false false es env × DomValued d env
  Valued w (comp_ex e gs) env = IsTrue (is_some (meaning (comp_ex e gs) env)) × UnderValued gs env (λ here. Valued false e here)
  Valued w (cell_ex b n es) env = Unless (b || w) (IsTrue (is_some (meaning (cell_ex b n es) env))) × AllValued false false es env
  Valued w (seen_ex r d ns es) env = IsTrue (is_some (meaning (seen_ex r d ns es) env)) × DomValued d env × AllValued false false es env

  -- The same of operands; g says whether the first one guards those behind it.
  pub AllValued : Bool → Bool → Exs → Env → Type 0
  AllValued g w no_exs env = Unit {0}
  AllValued g w (more_exs e es) env = Valued w e env × Guarded g (meaning e env) (AllValued false w es env)

  -- The same of generators, and P at each of their bindings whose conditions hold.
  pub UnderValued : Gens → Env → (Env → Type 0) → Type 0
  UnderValued no_gens env P = P env
  UnderValued (over p d gs) env P = DomValued d env × EachOf (members_in (domain_of d env)) (λ v. UnderValued gs (with_pat p v env) P)
  UnderValued (from p e gs) env P = Valued false e env × EachIn (meaning e env) (λ v. UnderValued gs (with_pat p v env) P)
  UnderValued (cond e gs) env P = Valued false e env × WhenTrue (meaning e env) (UnderValued gs env P)

  -- The same of a domain, whose numbers stand in no natural place.
  pub DomValued : Dom → Env → Type 0
  DomValued bool_dom env = Unit {0}
  DomValued (int_dom rs es) env = AllValued false false es env
  DomValued (name_dom a) env = Unit {0}
  DomValued (tuple_dom ds) env = DomsValued ds env
  DomValued (record_dom fs ds) env = DomsValued ds env
  DomValued (matrix_dom is d) env = DomsValued is env × DomValued d env
  DomValued (set_dom ms es d) env = AllValued false false es env × DomValued d env
  DomValued (mset_dom ms es d) env = AllValued false false es env × DomValued d env
  DomValued (function_dom ms es d c) env = AllValued false false es env × DomValued d env × DomValued c env
  DomValued (relation_dom ms es ds) env = AllValued false false es env × DomsValued ds env
  DomValued (partition_dom ms es d) env = AllValued false false es env × DomValued d env

  -- The same of several domains.
  pub DomsValued : Doms → Env → Type 0
  DomsValued no_doms env = Unit {0}
  DomsValued (more_doms d ds) env = DomValued d env × DomsValued ds env
