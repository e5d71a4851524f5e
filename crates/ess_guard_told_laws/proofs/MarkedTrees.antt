-- A tree with the right marks has known forms where its truth values are told.
use Rattle.ess_semantics.specs.Names.{Names}
use Rattle.ess_semantics.specs.Trees.{Ex, Exs, number_ex, truth_ex, name_ex, node_ex, matrix_ex, comp_ex, cell_ex, seen_ex, no_exs, more_exs, Gens, no_gens, over, from, cond, Dom, Doms, bool_dom, int_dom, name_dom, tuple_dom, record_dom, matrix_dom, set_dom, mset_dom, function_dom, relation_dom, partition_dom, no_doms, more_doms}
use Rattle.ess_semantics.specs.Types.{Ty, type_of_dom, bind_types}
use Rattle.ess_semantics.specs.Typing.{source_ty}
use Rattle.ess_semantics.specs.NamesAt.{names_behind}
use Rattle.ess_guard_laws.specs.Guard.{connects}
use Rattle.ess_guard_tests_laws.specs.FormsKnown.{FormsKnown, AllFormsKnown, GensFormsKnown, DomFormsKnown, DomsFormsKnown}
use Rattle.ess_refine_laws.specs.MarksStay.{HasMarks, HaveMarks, GensHaveMarks, DomHasMarks, DomsHaveMarks}
use Rattle.ess_guard_told_laws.specs.TruthsTold.{TruthsAreTold, AllTruthsAreTold, GensTruthsAreTold, DomTruthsAreTold, DomsTruthsAreTold}
use Rattle.ess_guard_told_laws.proofs.TruthTypes.{truth-asks, truths-ask}

mutual
  -- A tree whose truth values are told has known forms.
  pub known : (e : Ex) (g : Names Ty) → HasMarks e g → TruthsAreTold e g → FormsKnown e
  known (number_ex n) g m t = tt
  known (truth_ex b) g m t = tt
  known (name_ex a) g m t = tt
  known (node_ex b op es) g m t = (t.0, truths-ask (connects op) es g m.1 t.1, all-known es g m.1 t.2)
  known (matrix_ex es d) g m t = (all-known es g m.0 t.0, dom-known d g m.1 t.1)
  known (comp_ex e gs) g m t = (known e (names_behind gs g) m.1 t.0, gens-known gs g m.0 t.1)
  known (cell_ex b n es) g m t = all-known es g m t
  known (seen_ex r d ns es) g m t = tt

  all-known : (es : Exs) (g : Names Ty) → HaveMarks es g → AllTruthsAreTold es g → AllFormsKnown es
  all-known no_exs g m t = tt
  all-known (more_exs e es) g m t = (known e g m.0 t.0, all-known es g m.1 t.1)

  gens-known : (gs : Gens) (g : Names Ty) → GensHaveMarks gs g → GensTruthsAreTold gs g → GensFormsKnown gs
  gens-known no_gens g m t = tt
  gens-known (over p d gs) g m t = (dom-known d g m.0 t.0, gens-known gs (bind_types p (type_of_dom d) g) m.1 t.1)
  gens-known (from p e gs) g m t = (known e g m.1 t.0, gens-known gs (bind_types p (source_ty e g) g) m.2 t.1)
  gens-known (cond c gs) g m t = (truth-asks c g m.0 t.0, known c g m.0 t.1, gens-known gs g m.1 t.2)

  dom-known : (d : Dom) (g : Names Ty) → DomHasMarks d g → DomTruthsAreTold d g → DomFormsKnown d
  dom-known bool_dom g m t = tt
  dom-known (int_dom rs es) g m t = all-known es g m t
  dom-known (name_dom a) g m t = tt
  dom-known (tuple_dom ds) g m t = doms-known ds g m t
  dom-known (record_dom fs ds) g m t = doms-known ds g m t
  dom-known (matrix_dom is d) g m t = (doms-known is g m.0 t.0, dom-known d g m.1 t.1)
  dom-known (set_dom ms es d) g m t = (all-known es g m.0 t.0, dom-known d g m.1 t.1)
  dom-known (mset_dom ms es d) g m t = (all-known es g m.0 t.0, dom-known d g m.1 t.1)
  dom-known (function_dom ms es d c) g m t = (all-known es g m.0 t.0, dom-known d g m.1 t.1, dom-known c g m.2 t.2)
  dom-known (relation_dom ms es ds) g m t = (all-known es g m.0 t.0, doms-known ds g m.1 t.1)
  dom-known (partition_dom ms es d) g m t = (all-known es g m.0 t.0, dom-known d g m.1 t.1)

  doms-known : (ds : Doms) (g : Names Ty) → DomsHaveMarks ds g → DomsTruthsAreTold ds g → DomsFormsKnown ds
  doms-known no_doms g m t = tt
  doms-known (more_doms d ds) g m t = (dom-known d g m.0 t.0, doms-known ds g m.1 t.1)
