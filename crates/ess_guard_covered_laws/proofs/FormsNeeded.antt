-- The forms of a covered tree are told, where its parts have types.
use Rattle.ess_semantics.specs.Names.{Names}
use Rattle.ess_semantics.specs.Trees.{Ex, Exs, number_ex, truth_ex, name_ex, node_ex, matrix_ex, comp_ex, cell_ex, seen_ex, no_exs, more_exs, Gens, no_gens, over, from, cond, Dom, Doms, bool_dom, int_dom, name_dom, tuple_dom, record_dom, matrix_dom, set_dom, mset_dom, function_dom, relation_dom, partition_dom, no_doms, more_doms}
use Rattle.ess_semantics.specs.Types.{Ty, type_of_dom, bind_types}
use Rattle.ess_semantics.specs.Typing.{type_of, source_ty}
use Rattle.ess_semantics.specs.NamesAt.{names_behind}
use Rattle.ess_guard_laws.specs.Covered.{Covered, CoveredAll, CoveredGens, CoveredDom, CoveredDoms}
use Rattle.ess_guard_types_laws.specs.HasTypes.{HasTypes, HaveTypes, GensHaveTypes, AreNumbers, DomHasTypes, DomsHaveTypes}
use Rattle.ess_guard_covered_laws.specs.FormsTold.{FormsAreTold, AllFormsAreTold, GensFormsAreTold, DomFormsAreTold, DomsFormsAreTold}
use Rattle.ess_guard_covered_laws.proofs.OperandTypes.{agrees-truth, truth-told, operands-told}

mutual
  -- The forms of a covered tree are told.
  pub told : (e : Ex) (g : Names Ty) → HasTypes e g → Covered e → FormsAreTold e g
  told (number_ex n) g h v = tt
  told (truth_ex b) g h v = tt
  told (name_ex a) g h v = tt
  told (node_ex b op es) g h v = (v.0, operands-told b op es g h.0 h.2 v.1, all-told es g h.2 v.2)
  told (matrix_ex es d) g h v = (all-told es g h.1 v.0, dom-told d g h.2 v.1)
  told (comp_ex e gs) g h v = (told e (names_behind gs g) h.1 v.0, gens-told gs g h.0 v.1)
  told (cell_ex b n es) g h v = all-told es g h v
  told (seen_ex r d ns es) g h v = tt

  all-told : (es : Exs) (g : Names Ty) → HaveTypes es g → CoveredAll es → AllFormsAreTold es g
  all-told no_exs g h v = tt
  all-told (more_exs e es) g h v = (told e g h.0 v.0, all-told es g h.1 v.1)

  gens-told : (gs : Gens) (g : Names Ty) → GensHaveTypes gs g → CoveredGens gs → GensFormsAreTold gs g
  gens-told no_gens g h v = tt
  gens-told (over p d gs) g h v = (dom-told d g h.0 v.0, gens-told gs (bind_types p (type_of_dom d) g) h.1 v.1)
  gens-told (from p e gs) g h v = (told e g h.1 v.0, gens-told gs (bind_types p (source_ty e g) g) h.2 v.1)
  gens-told (cond c gs) g h v = (truth-told c g h.1 (agrees-truth (type_of c g) h.0) v.0, told c g h.1 v.1, gens-told gs g h.2 v.2)

  numbers-told : (es : Exs) (g : Names Ty) → AreNumbers es g → CoveredAll es → AllFormsAreTold es g
  numbers-told no_exs g h v = tt
  numbers-told (more_exs e es) g h v = (told e g h.1 v.0, numbers-told es g h.2 v.1)

  dom-told : (d : Dom) (g : Names Ty) → DomHasTypes d g → CoveredDom d → DomFormsAreTold d g
  dom-told bool_dom g h v = tt
  dom-told (int_dom rs es) g h v = numbers-told es g h v
  dom-told (name_dom a) g h v = tt
  dom-told (tuple_dom ds) g h v = doms-told ds g h v
  dom-told (record_dom fs ds) g h v = doms-told ds g h v
  dom-told (matrix_dom is d) g h v = (doms-told is g h.0 v.0, dom-told d g h.1 v.1)
  dom-told (set_dom ms es d) g h v = (numbers-told es g h.0 v.0, dom-told d g h.1 v.1)
  dom-told (mset_dom ms es d) g h v = (numbers-told es g h.0 v.0, dom-told d g h.1 v.1)
  dom-told (function_dom ms es d c) g h v = (numbers-told es g h.0 v.0, dom-told d g h.1 v.1, dom-told c g h.2 v.2)
  dom-told (relation_dom ms es ds) g h v = (numbers-told es g h.0 v.0, doms-told ds g h.1 v.1)
  dom-told (partition_dom ms es d) g h v = (numbers-told es g h.0 v.0, dom-told d g h.1 v.1)

  doms-told : (ds : Doms) (g : Names Ty) → DomsHaveTypes ds g → CoveredDoms ds → DomsFormsAreTold ds g
  doms-told no_doms g h v = tt
  doms-told (more_doms d ds) g h v = (dom-told d g h.0 v.0, doms-told ds g h.1 v.1)
