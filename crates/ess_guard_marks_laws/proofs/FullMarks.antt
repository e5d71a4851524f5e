-- Trees in which no node lacks its mark: one that isn't marked as a Boolean is none by its operator and by its type. With types at each
-- part that is what right marks are.
use Rattle.std.proofs.Common.{◌≡◌, refl, sym, ap, ◌∙◌, Bool, true, false, ◌||◌, List, [], ◌∷◌, Option, Some, None}
use Rattle.ess_semantics.specs.Names.{Names}
use Rattle.ess_semantics.specs.Trees.{Op, is_truth_op, Ex, Exs, number_ex, truth_ex, name_ex, node_ex, matrix_ex, comp_ex, cell_ex, seen_ex, no_exs, more_exs, Gens, no_gens, over, from, cond, Dom, Doms, bool_dom, int_dom, name_dom, tuple_dom, record_dom, matrix_dom, set_dom, mset_dom, function_dom, relation_dom, partition_dom, no_doms, more_doms}
use Rattle.ess_semantics.specs.Types.{Ty, is_bool, type_of_dom, bind_types}
use Rattle.ess_semantics.specs.Typing.{type_of, source_ty}
use Rattle.ess_semantics.specs.NamesAt.{names_behind}
use Rattle.ess_guard_types_laws.specs.HasTypes.{fits_mark, HasTypes, HaveTypes, GensHaveTypes, AreNumbers, DomHasTypes, DomsHaveTypes}
use Rattle.ess_refine_laws.specs.MarksStay.{MarkFits, HasMarks, HaveMarks, GensHaveMarks, DomHasMarks, DomsHaveMarks}

-- An unmarked node is no Boolean.
abbrev pub NoneLacks : Bool → Op → Option Ty → Type 0
NoneLacks true op o = Unit {0}
NoneLacks false op o = (is_truth_op op || is_bool o) ≡ false

abbrev mutual
  -- No node of the tree lacks its mark.
  pub Full : Ex → Names Ty → Type 0
  Full (number_ex n) g = Unit {0}
  Full (truth_ex b) g = Unit {0}
  Full (name_ex a) g = Unit {0}
  Full (node_ex b op es) g = NoneLacks b op (type_of (node_ex b op es) g) × AllFull es g
  Full (matrix_ex es d) g = AllFull es g × DomFull d g
  Full (comp_ex e gs) g = GensFull gs g × Full e (names_behind gs g)
  Full (cell_ex b n es) g = AllFull es g
  Full (seen_ex r d ns es) g = DomFull d g × AllFull es g

  -- The same of operands.
  pub AllFull : Exs → Names Ty → Type 0
  AllFull no_exs g = Unit {0}
  AllFull (more_exs e es) g = Full e g × AllFull es g

  -- The same of generators.
  pub GensFull : Gens → Names Ty → Type 0
  GensFull no_gens g = Unit {0}
  GensFull (over p d gs) g = DomFull d g × GensFull gs (bind_types p (type_of_dom d) g)
  GensFull (from p e gs) g = Full e g × GensFull gs (bind_types p (source_ty e g) g)
  GensFull (cond e gs) g = Full e g × GensFull gs g

  -- The same of a domain.
  pub DomFull : Dom → Names Ty → Type 0
  DomFull bool_dom g = Unit {0}
  DomFull (int_dom rs es) g = AllFull es g
  DomFull (name_dom a) g = Unit {0}
  DomFull (tuple_dom ds) g = DomsFull ds g
  DomFull (record_dom fs ds) g = DomsFull ds g
  DomFull (matrix_dom is d) g = DomsFull is g × DomFull d g
  DomFull (set_dom ms es d) g = AllFull es g × DomFull d g
  DomFull (mset_dom ms es d) g = AllFull es g × DomFull d g
  DomFull (function_dom ms es d c) g = AllFull es g × DomFull d g × DomFull c g
  DomFull (relation_dom ms es ds) g = AllFull es g × DomsFull ds g
  DomFull (partition_dom ms es d) g = AllFull es g × DomFull d g

  -- The same of several domains.
  pub DomsFull : Doms → Names Ty → Type 0
  DomsFull no_doms g = Unit {0}
  DomsFull (more_doms d ds) g = DomFull d g × DomsFull ds g

-- Each condition is so.
abbrev pub FullConds : List Ex → Names Ty → Type 0
FullConds [] g = Unit {0}
FullConds (c ∷ cs) g = Full c g × FullConds cs g

-- ---- from right marks

lacks-none : (b : Bool) (op : Op) (o : Option Ty) → MarkFits b op o → NoneLacks b op o
lacks-none true op o m = tt
lacks-none false op None m = absurd m
lacks-none false op (Some t) m = sym m

mutual
  -- Where marks are right none is lacking.
  pub marks-full : (e : Ex) (g : Names Ty) → HasMarks e g → Full e g
  marks-full (number_ex n) g m = tt
  marks-full (truth_ex b) g m = tt
  marks-full (name_ex a) g m = tt
  marks-full (node_ex b op es) g m = (lacks-none b op (type_of (node_ex b op es) g) m.0, all-marks-full es g m.1)
  marks-full (matrix_ex es d) g m = (all-marks-full es g m.0, dom-marks-full d g m.1)
  marks-full (comp_ex e gs) g m = (gens-marks-full gs g m.0, marks-full e (names_behind gs g) m.1)
  marks-full (cell_ex b n es) g m = all-marks-full es g m
  marks-full (seen_ex r d ns es) g m = (dom-marks-full d g m.0, all-marks-full es g m.1)

  all-marks-full : (es : Exs) (g : Names Ty) → HaveMarks es g → AllFull es g
  all-marks-full no_exs g m = tt
  all-marks-full (more_exs e es) g m = (marks-full e g m.0, all-marks-full es g m.1)

  gens-marks-full : (gs : Gens) (g : Names Ty) → GensHaveMarks gs g → GensFull gs g
  gens-marks-full no_gens g m = tt
  gens-marks-full (over p d gs) g m = (dom-marks-full d g m.0, gens-marks-full gs (bind_types p (type_of_dom d) g) m.1)
  gens-marks-full (from p e gs) g m = (marks-full e g m.1, gens-marks-full gs (bind_types p (source_ty e g) g) m.2)
  gens-marks-full (cond e gs) g m = (marks-full e g m.0, gens-marks-full gs g m.1)

  dom-marks-full : (d : Dom) (g : Names Ty) → DomHasMarks d g → DomFull d g
  dom-marks-full bool_dom g m = tt
  dom-marks-full (int_dom rs es) g m = all-marks-full es g m
  dom-marks-full (name_dom a) g m = tt
  dom-marks-full (tuple_dom ds) g m = doms-marks-full ds g m
  dom-marks-full (record_dom fs ds) g m = doms-marks-full ds g m
  dom-marks-full (matrix_dom is d) g m = (doms-marks-full is g m.0, dom-marks-full d g m.1)
  dom-marks-full (set_dom ms es d) g m = (all-marks-full es g m.0, dom-marks-full d g m.1)
  dom-marks-full (mset_dom ms es d) g m = (all-marks-full es g m.0, dom-marks-full d g m.1)
  dom-marks-full (function_dom ms es d c) g m = (all-marks-full es g m.0, dom-marks-full d g m.1, dom-marks-full c g m.2)
  dom-marks-full (relation_dom ms es ds) g m = (all-marks-full es g m.0, doms-marks-full ds g m.1)
  dom-marks-full (partition_dom ms es d) g m = (all-marks-full es g m.0, dom-marks-full d g m.1)

  doms-marks-full : (ds : Doms) (g : Names Ty) → DomsHaveMarks ds g → DomsFull ds g
  doms-marks-full no_doms g m = tt
  doms-marks-full (more_doms d ds) g m = (dom-marks-full d g m.0, doms-marks-full ds g m.1)

-- ---- to right marks

fitting : (b : Bool) (op : Op) (o : Option Ty) → fits_mark b o ≡ true → NoneLacks b op o → MarkFits b op o
fitting true op None h f = no h
  where
    no : false ≡ true → ⊥
    no e = cc
fitting true op (Some t) h f = sym (ap (λ z. is_truth_op op || z) h ∙ last (is_truth_op op))
  where
    last : (b : Bool) → b || true ≡ true
    last true = refl
    last false = refl
fitting false op None h f = no h
  where
    no : false ≡ true → ⊥
    no e = cc
fitting false op (Some t) h f = sym f

mutual
  -- Where each part has a type and no mark is lacking marks are right.
  pub full-marks : (e : Ex) (g : Names Ty) → HasTypes e g → Full e g → HasMarks e g
  full-marks (number_ex n) g h f = tt
  full-marks (truth_ex b) g h f = tt
  full-marks (name_ex a) g h f = tt
  full-marks (node_ex b op es) g h f = (fitting b op (type_of (node_ex b op es) g) h.0 f.0, all-full-marks es g h.2 f.1)
  full-marks (matrix_ex es d) g h f = (all-full-marks es g h.1 f.0, dom-full-marks d g h.2 f.1)
  full-marks (comp_ex e gs) g h f = (gens-full-marks gs g h.0 f.0, full-marks e (names_behind gs g) h.1 f.1)
  full-marks (cell_ex b n es) g h f = all-full-marks es g h f
  full-marks (seen_ex r d ns es) g h f = (dom-full-marks d g h.0 f.0, all-full-marks es g h.1 f.1)

  all-full-marks : (es : Exs) (g : Names Ty) → HaveTypes es g → AllFull es g → HaveMarks es g
  all-full-marks no_exs g h f = tt
  all-full-marks (more_exs e es) g h f = (full-marks e g h.0 f.0, all-full-marks es g h.1 f.1)

  gens-full-marks : (gs : Gens) (g : Names Ty) → GensHaveTypes gs g → GensFull gs g → GensHaveMarks gs g
  gens-full-marks no_gens g h f = tt
  gens-full-marks (over p d gs) g h f = (dom-full-marks d g h.0 f.0, gens-full-marks gs (bind_types p (type_of_dom d) g) h.1 f.1)
  gens-full-marks (from p e gs) g h f =
      (h.0, full-marks e g h.1 f.0, gens-full-marks gs (bind_types p (source_ty e g) g) h.2 f.1)
  gens-full-marks (cond e gs) g h f = (full-marks e g h.1 f.0, gens-full-marks gs g h.2 f.1)

  numbers-full-marks : (es : Exs) (g : Names Ty) → AreNumbers es g → AllFull es g → HaveMarks es g
  numbers-full-marks no_exs g h f = tt
  numbers-full-marks (more_exs e es) g h f = (full-marks e g h.1 f.0, numbers-full-marks es g h.2 f.1)

  dom-full-marks : (d : Dom) (g : Names Ty) → DomHasTypes d g → DomFull d g → DomHasMarks d g
  dom-full-marks bool_dom g h f = tt
  dom-full-marks (int_dom rs es) g h f = numbers-full-marks es g h f
  dom-full-marks (name_dom a) g h f = tt
  dom-full-marks (tuple_dom ds) g h f = doms-full-marks ds g h f
  dom-full-marks (record_dom fs ds) g h f = doms-full-marks ds g h f
  dom-full-marks (matrix_dom is d) g h f = (doms-full-marks is g h.0 f.0, dom-full-marks d g h.1 f.1)
  dom-full-marks (set_dom ms es d) g h f = (numbers-full-marks es g h.0 f.0, dom-full-marks d g h.1 f.1)
  dom-full-marks (mset_dom ms es d) g h f = (numbers-full-marks es g h.0 f.0, dom-full-marks d g h.1 f.1)
  dom-full-marks (function_dom ms es d c) g h f =
      (numbers-full-marks es g h.0 f.0, dom-full-marks d g h.1 f.1, dom-full-marks c g h.2 f.2)
  dom-full-marks (relation_dom ms es ds) g h f = (numbers-full-marks es g h.0 f.0, doms-full-marks ds g h.1 f.1)
  dom-full-marks (partition_dom ms es d) g h f = (numbers-full-marks es g h.0 f.0, dom-full-marks d g h.1 f.1)

  doms-full-marks : (ds : Doms) (g : Names Ty) → DomsHaveTypes ds g → DomsFull ds g → DomsHaveMarks ds g
  doms-full-marks no_doms g h f = tt
  doms-full-marks (more_doms d ds) g h f = (dom-full-marks d g h.0 f.0, doms-full-marks ds g h.1 f.1)
