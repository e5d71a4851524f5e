-- Trees that are total but for plain operators in natural places (`TotalButNatural`) and for tests of indices whose matrices don't tell
-- their index domain by their form (`TotalButTests`).
use Rattle.std.specs.Prelude.{Bool, false, ◌⊎◌, IsTrue}
use Rattle.ess_semantics.specs.Trees.{Ex, Exs, number_ex, truth_ex, name_ex, node_ex, matrix_ex, comp_ex, cell_ex, seen_ex, no_exs, more_exs, Gens, no_gens, over, from, cond, Dom, Doms, bool_dom, int_dom, name_dom, tuple_dom, record_dom, matrix_dom, set_dom, mset_dom, function_dom, relation_dom, partition_dom, no_doms, more_doms}
use Rattle.ess_semantics.specs.Meaning.{Env, meaning, meanings, domain_of, members_in, with_pat, has_meaning}
use Rattle.ess_semantics.specs.Contexts.{EachOf, EachIn, WhenTrue}
use Rattle.ess_semantics.specs.Totality.{HasValue}
use Rattle.ess_guard_laws.specs.Supplied.{Unless}
use Rattle.ess_guard_natural_laws.specs.TotalButNatural.{opens_places, may_lack}
use Rattle.ess_guard_tests_laws.specs.TotalButTests.{IsTest, HasItsValue}

abbrev mutual
  -- Each operator of the expression is total but for plain ones in natural places and for tests, at each binding of generators whose
  -- conditions hold. w says that the expression stands in a natural place, and W holds where it is a side of a test.
  pub TotalInPlaces : Bool → Type 0 → Ex → Env → Type 0
  TotalInPlaces w W (number_ex n) env = Unit {0}
  TotalInPlaces w W (truth_ex b) env = Unit {0}
  TotalInPlaces w W (name_ex a) env = Unit {0}
  TotalInPlaces w W (node_ex b op es) env =
      (Unless (may_lack w b op) (HasItsValue op (meanings es env)) ⊎ W)
      × AllTotalInPlaces (opens_places w b op) (IsTest b op es) es env
  TotalInPlaces w W (matrix_ex es d) env =
      (IsTrue (has_meaning d env) → HasValue (meaning (matrix_ex es d) env) (meanings es env)) × AllTotalInPlaces false ⊥ es env
      × DomTotalInPlaces d env
  TotalInPlaces w W (comp_ex e gs) env = UnderTotalInPlaces gs env (λ here. TotalInPlaces false ⊥ e here)
  TotalInPlaces w W (cell_ex b n es) env = AllTotalInPlaces false ⊥ es env
  TotalInPlaces w W (seen_ex r d ns es) env = Unit {0}

  -- The same of operands.
  pub AllTotalInPlaces : Bool → Type 0 → Exs → Env → Type 0
  AllTotalInPlaces w W no_exs env = Unit {0}
  AllTotalInPlaces w W (more_exs e es) env = TotalInPlaces w W e env × AllTotalInPlaces w W es env

  -- The same of generators, and P at each of their bindings.
  pub UnderTotalInPlaces : Gens → Env → (Env → Type 0) → Type 0
  UnderTotalInPlaces no_gens env P = P env
  UnderTotalInPlaces (over p d gs) env P =
      DomTotalInPlaces d env × EachOf (members_in (domain_of d env)) (λ v. UnderTotalInPlaces gs (with_pat p v env) P)
  UnderTotalInPlaces (from p e gs) env P =
      TotalInPlaces false ⊥ e env × EachIn (meaning e env) (λ v. UnderTotalInPlaces gs (with_pat p v env) P)
  UnderTotalInPlaces (cond e gs) env P = TotalInPlaces false ⊥ e env × WhenTrue (meaning e env) (UnderTotalInPlaces gs env P)

  -- The same of a domain.
  pub DomTotalInPlaces : Dom → Env → Type 0
  DomTotalInPlaces bool_dom env = Unit {0}
  DomTotalInPlaces (int_dom rs es) env = AllTotalInPlaces false ⊥ es env
  DomTotalInPlaces (name_dom a) env = Unit {0}
  DomTotalInPlaces (tuple_dom ds) env = DomsTotalInPlaces ds env
  DomTotalInPlaces (record_dom fs ds) env = DomsTotalInPlaces ds env
  DomTotalInPlaces (matrix_dom is d) env = DomsTotalInPlaces is env × DomTotalInPlaces d env
  DomTotalInPlaces (set_dom ms es d) env = AllTotalInPlaces false ⊥ es env × DomTotalInPlaces d env
  DomTotalInPlaces (mset_dom ms es d) env = AllTotalInPlaces false ⊥ es env × DomTotalInPlaces d env
  DomTotalInPlaces (function_dom ms es d c) env = AllTotalInPlaces false ⊥ es env × DomTotalInPlaces d env × DomTotalInPlaces c env
  DomTotalInPlaces (relation_dom ms es ds) env = AllTotalInPlaces false ⊥ es env × DomsTotalInPlaces ds env
  DomTotalInPlaces (partition_dom ms es d) env = AllTotalInPlaces false ⊥ es env × DomTotalInPlaces d env

  -- The same of several domains.
  pub DomsTotalInPlaces : Doms → Env → Type 0
  DomsTotalInPlaces no_doms env = Unit {0}
  DomsTotalInPlaces (more_doms d ds) env = DomTotalInPlaces d env × DomsTotalInPlaces ds env
