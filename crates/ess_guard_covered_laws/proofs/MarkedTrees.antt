-- A tree with the right marks is covered where its forms are told.
use Rattle.ess_semantics.specs.Names.{Names}
use Rattle.ess_semantics.specs.Trees.{Ex, Exs, number_ex, truth_ex, name_ex, node_ex, matrix_ex, comp_ex, cell_ex, seen_ex, no_exs, more_exs, Gens, no_gens, over, from, cond, Dom, Doms, bool_dom, int_dom, name_dom, tuple_dom, record_dom, matrix_dom, set_dom, mset_dom, function_dom, relation_dom, partition_dom, no_doms, more_doms}
use Rattle.ess_semantics.specs.Types.{Ty, type_of_dom, bind_types}
use Rattle.ess_semantics.specs.Typing.{source_ty}
use Rattle.ess_semantics.specs.NamesAt.{names_behind}
use Rattle.ess_guard_laws.specs.Guard.{connects}
use Rattle.ess_guard_laws.specs.Covered.{Covered, CoveredAll, CoveredGens, CoveredDom, CoveredDoms}
use Rattle.ess_refine_laws.specs.MarksStay.{HasMarks, HaveMarks, GensHaveMarks, DomHasMarks, DomsHaveMarks}
use Rattle.ess_guard_covered_laws.specs.FormsTold.{FormsAreTold, AllFormsAreTold, GensFormsAreTold, DomFormsAreTold, DomsFormsAreTold}
use Rattle.ess_guard_covered_laws.proofs.TruthTypes.{truth-asks, truths-ask}

mutual
  -- A tree whose forms are told is covered.
  pub covered : (e : Ex) (g : Names Ty) → HasMarks e g → FormsAreTold e g → Covered e
  covered (number_ex n) g m t = tt
  covered (truth_ex b) g m t = tt
  covered (name_ex a) g m t = tt
  covered (node_ex b op es) g m t = (t.0, truths-ask (connects op) es g m.1 t.1, all-covered es g m.1 t.2)
  covered (matrix_ex es d) g m t = (all-covered es g m.0 t.0, dom-covered d g m.1 t.1)
  covered (comp_ex e gs) g m t = (covered e (names_behind gs g) m.1 t.0, gens-covered gs g m.0 t.1)
  covered (cell_ex b n es) g m t = all-covered es g m t
  covered (seen_ex r d ns es) g m t = tt

  all-covered : (es : Exs) (g : Names Ty) → HaveMarks es g → AllFormsAreTold es g → CoveredAll es
  all-covered no_exs g m t = tt
  all-covered (more_exs e es) g m t = (covered e g m.0 t.0, all-covered es g m.1 t.1)

  gens-covered : (gs : Gens) (g : Names Ty) → GensHaveMarks gs g → GensFormsAreTold gs g → CoveredGens gs
  gens-covered no_gens g m t = tt
  gens-covered (over p d gs) g m t = (dom-covered d g m.0 t.0, gens-covered gs (bind_types p (type_of_dom d) g) m.1 t.1)
  gens-covered (from p e gs) g m t = (covered e g m.1 t.0, gens-covered gs (bind_types p (source_ty e g) g) m.2 t.1)
  gens-covered (cond c gs) g m t = (truth-asks c g m.0 t.0, covered c g m.0 t.1, gens-covered gs g m.1 t.2)

  dom-covered : (d : Dom) (g : Names Ty) → DomHasMarks d g → DomFormsAreTold d g → CoveredDom d
  dom-covered bool_dom g m t = tt
  dom-covered (int_dom rs es) g m t = all-covered es g m t
  dom-covered (name_dom a) g m t = tt
  dom-covered (tuple_dom ds) g m t = doms-covered ds g m t
  dom-covered (record_dom fs ds) g m t = doms-covered ds g m t
  dom-covered (matrix_dom is d) g m t = (doms-covered is g m.0 t.0, dom-covered d g m.1 t.1)
  dom-covered (set_dom ms es d) g m t = (all-covered es g m.0 t.0, dom-covered d g m.1 t.1)
  dom-covered (mset_dom ms es d) g m t = (all-covered es g m.0 t.0, dom-covered d g m.1 t.1)
  dom-covered (function_dom ms es d c) g m t = (all-covered es g m.0 t.0, dom-covered d g m.1 t.1, dom-covered c g m.2 t.2)
  dom-covered (relation_dom ms es ds) g m t = (all-covered es g m.0 t.0, doms-covered ds g m.1 t.1)
  dom-covered (partition_dom ms es d) g m t = (all-covered es g m.0 t.0, dom-covered d g m.1 t.1)

  doms-covered : (ds : Doms) (g : Names Ty) → DomsHaveMarks ds g → DomsFormsAreTold ds g → CoveredDoms ds
  doms-covered no_doms g m t = tt
  doms-covered (more_doms d ds) g m t = (dom-covered d g m.0 t.0, doms-covered ds g m.1 t.1)
