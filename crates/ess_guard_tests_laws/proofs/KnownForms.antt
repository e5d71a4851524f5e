-- Covered trees have known forms.
use Rattle.std.proofs.Common.{◌≡◌, refl, true}
use Rattle.ess_semantics.specs.Trees.{Op, function_literal, Ex, Exs, number_ex, truth_ex, name_ex, node_ex, matrix_ex, comp_ex, cell_ex, seen_ex, no_exs, more_exs, Gens, no_gens, over, from, cond, Dom, Doms, bool_dom, int_dom, name_dom, tuple_dom, record_dom, matrix_dom, set_dom, mset_dom, function_dom, relation_dom, partition_dom, no_doms, more_doms}
use Rattle.ess_guard_laws.specs.Covered.{covers, Covered, CoveredAll, CoveredGens, CoveredDom, CoveredDoms}
use Rattle.ess_guard_tests_laws.specs.FormsKnown.{holds_pairs, FormsKnown, AllFormsKnown, GensFormsKnown, DomFormsKnown, DomsFormsKnown}

pairs-known : (op : Op) (es : Exs) → covers op es ≡ true → holds_pairs op es ≡ true
pairs-known function_literal es c = c
pairs-known _ es c = refl

mutual
  pub known : (e : Ex) → Covered e → FormsKnown e
  known (number_ex n) c = tt
  known (truth_ex b) c = tt
  known (name_ex a) c = tt
  known (node_ex b op es) c = (pairs-known op es c.0, c.1, all-known es c.2)
  known (matrix_ex es d) c = (all-known es c.0, dom-known d c.1)
  known (comp_ex e gs) c = (known e c.0, gens-known gs c.1)
  known (cell_ex b n es) c = all-known es c
  known (seen_ex r d ns es) c = tt

  all-known : (es : Exs) → CoveredAll es → AllFormsKnown es
  all-known no_exs c = tt
  all-known (more_exs e es) c = (known e c.0, all-known es c.1)

  gens-known : (gs : Gens) → CoveredGens gs → GensFormsKnown gs
  gens-known no_gens c = tt
  gens-known (over p d gs) c = (dom-known d c.0, gens-known gs c.1)
  gens-known (from p e gs) c = (known e c.0, gens-known gs c.1)
  gens-known (cond e gs) c = (c.0, known e c.1, gens-known gs c.2)

  dom-known : (d : Dom) → CoveredDom d → DomFormsKnown d
  dom-known bool_dom c = tt
  dom-known (int_dom rs es) c = all-known es c
  dom-known (name_dom a) c = tt
  dom-known (tuple_dom ds) c = doms-known ds c
  dom-known (record_dom fs ds) c = doms-known ds c
  dom-known (matrix_dom is d) c = (doms-known is c.0, dom-known d c.1)
  dom-known (set_dom ms es d) c = (all-known es c.0, dom-known d c.1)
  dom-known (mset_dom ms es d) c = (all-known es c.0, dom-known d c.1)
  dom-known (function_dom ms es d e) c = (all-known es c.0, dom-known d c.1, dom-known e c.2)
  dom-known (relation_dom ms es ds) c = (all-known es c.0, doms-known ds c.1)
  dom-known (partition_dom ms es d) c = (all-known es c.0, dom-known d c.1)

  doms-known : (ds : Doms) → CoveredDoms ds → DomsFormsKnown ds
  doms-known no_doms c = tt
  doms-known (more_doms d ds) c = (dom-known d c.0, doms-known ds c.1)
