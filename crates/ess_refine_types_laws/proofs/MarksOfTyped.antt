-- Resolved trees whose parts have types have the right marks.
use Rattle.std.proofs.Common.{◌≡◌, refl, sym, ap, ◌∙◌, Bool, true, false, ◌||◌, List, [], ◌∷◌, Option, Some, None}
use Rattle.ess_semantics.specs.Names.{Names}
use Rattle.ess_semantics.specs.Trees.{Step, by_value, to_component, to_field, Op, index, is_truth_op, Ex, Exs, number_ex, truth_ex, name_ex, node_ex, matrix_ex, comp_ex, cell_ex, seen_ex, no_exs, more_exs, Gens, no_gens, over, from, cond, Dom, Doms, bool_dom, int_dom, name_dom, tuple_dom, record_dom, matrix_dom, set_dom, mset_dom, function_dom, relation_dom, partition_dom, no_doms, more_doms}
use Rattle.ess_semantics.specs.Types.{Ty, is_bool, type_of_dom, bind_types}
use Rattle.ess_semantics.specs.Typing.{statics, type_of, types_of, source_ty}
use Rattle.ess_semantics.specs.Resolving.{resolved_steps, kept_indices, kept_operands, resolve, resolve_exs, resolve_dom, resolve_doms}
use Rattle.ess_semantics.specs.NamesAt.{names_behind}
use Rattle.ess_types_laws.proofs.ResolvedTypes.{gens_resolved, comp-resolved}
use Rattle.ess_guard_types_laws.specs.HasTypes.{fits_mark, HasTypes, HaveTypes, GensHaveTypes, AreNumbers, DomHasTypes, DomsHaveTypes}
use Rattle.ess_refine_laws.specs.MarksStay.{MarkFits, HasMarks, HaveMarks, GensHaveMarks, DomHasMarks, DomsHaveMarks}
use Rattle.ess_refine_types_laws.specs.MarksOfTyped.{TypedTreesHaveMarks}

-- ---- nodes

-- A node with a type and the mark that resolving gives.
fits : (b : Bool) (op : Op) (o : Option Ty) → fits_mark b o ≡ true → b ≡ (is_truth_op op || is_bool o) → MarkFits b op o
fits true op None h q = no h
  where
    no : false ≡ true → ⊥
    no e = cc
fits false op None h q = no h
  where
    no : false ≡ true → ⊥
    no e = cc
fits b op (Some t) h q = q

-- Operands of steps that stay by value stay.
kept-indices : (qs : List Step) (es : Exs) → kept_indices qs qs es ≡ es
kept-indices [] es = refl
kept-indices (by_value ∷ qs) no_exs = kept-indices qs no_exs
kept-indices (by_value ∷ qs) (more_exs e es) = ap (more_exs e) (kept-indices qs es)
kept-indices (to_component k ∷ qs) es = kept-indices qs es
kept-indices (to_field a ∷ qs) es = kept-indices qs es

kept-operands : (qs : List Step) (es : Exs) → kept_operands qs qs es ≡ es
kept-operands qs no_exs = refl
kept-operands qs (more_exs e es) = ap (more_exs e) (kept-indices qs es)

-- The mark and the operands of a resolved node.
node-parts : (b : Bool) (op : Op) (es : Exs) (g : Names Ty) → resolve (node_ex b op es) g ≡ node_ex b op es →
    (b ≡ (is_truth_op op || is_bool (type_of (node_ex b op es) g))) × (resolve_exs es g ≡ es)
node-parts b (index qs) es g r =
    let s : resolved_steps qs (statics es) (types_of es g) ≡ qs = cc in
    let k : kept_operands qs (resolved_steps qs (statics es) (types_of es g)) (resolve_exs es g) ≡ es = cc in
    (cc, sym (kept-operands qs (resolve_exs es g)) ∙ ap (λ z. kept_operands qs z (resolve_exs es g)) (sym s) ∙ k)
node-parts b op es g r = (cc, cc)

-- ---- trees

mutual
  marks : (e : Ex) (g : Names Ty) → HasTypes e g → resolve e g ≡ e → HasMarks e g
  marks (number_ex n) g h r = tt
  marks (truth_ex b) g h r = tt
  marks (name_ex a) g h r = tt
  marks (node_ex b op es) g h r =
      let p = node-parts b op es g r in (fits b op (type_of (node_ex b op es) g) h.0 p.0, marks-all es g h.2 p.1)
  marks (matrix_ex es d) g h r =
      let p : resolve_exs es g ≡ es = cc in let q : resolve_dom d g ≡ d = cc in (marks-all es g h.1 p, marks-dom d g h.2 q)
  marks (comp_ex e gs) g h r =
      let s : comp_ex (resolve e (names_behind gs g)) (gens_resolved gs g) ≡ comp_ex e gs = sym (comp-resolved e gs g) ∙ r in
      let p : resolve e (names_behind gs g) ≡ e = cc in let q : gens_resolved gs g ≡ gs = cc in
      (marks-gens gs g h.0 q, marks e (names_behind gs g) h.1 p)
  marks (cell_ex b n es) g h r = let p : resolve_exs es g ≡ es = cc in marks-all es g h p
  marks (seen_ex c d ns es) g h r =
      let p : resolve_exs es g ≡ es = cc in let q : resolve_dom d g ≡ d = cc in (marks-dom d g h.0 q, marks-all es g h.1 p)

  marks-all : (es : Exs) (g : Names Ty) → HaveTypes es g → resolve_exs es g ≡ es → HaveMarks es g
  marks-all no_exs g h r = tt
  marks-all (more_exs e es) g h r =
      let p : resolve e g ≡ e = cc in let q : resolve_exs es g ≡ es = cc in (marks e g h.0 p, marks-all es g h.1 q)

  marks-gens : (gs : Gens) (g : Names Ty) → GensHaveTypes gs g → gens_resolved gs g ≡ gs → GensHaveMarks gs g
  marks-gens no_gens g h r = tt
  marks-gens (over p d gs) g h r =
      let q : resolve_dom d g ≡ d = cc in let s : gens_resolved gs (bind_types p (type_of_dom d) g) ≡ gs = cc in
      (marks-dom d g h.0 q, marks-gens gs (bind_types p (type_of_dom d) g) h.1 s)
  marks-gens (from p e gs) g h r =
      let q : resolve e g ≡ e = cc in let s : gens_resolved gs (bind_types p (source_ty e g) g) ≡ gs = cc in
      (h.0, marks e g h.1 q, marks-gens gs (bind_types p (source_ty e g) g) h.2 s)
  marks-gens (cond e gs) g h r =
      let q : resolve e g ≡ e = cc in let s : gens_resolved gs g ≡ gs = cc in (marks e g h.1 q, marks-gens gs g h.2 s)

  marks-numbers : (es : Exs) (g : Names Ty) → AreNumbers es g → resolve_exs es g ≡ es → HaveMarks es g
  marks-numbers no_exs g h r = tt
  marks-numbers (more_exs e es) g h r =
      let p : resolve e g ≡ e = cc in let q : resolve_exs es g ≡ es = cc in (marks e g h.1 p, marks-numbers es g h.2 q)

  marks-dom : (d : Dom) (g : Names Ty) → DomHasTypes d g → resolve_dom d g ≡ d → DomHasMarks d g
  marks-dom bool_dom g h r = tt
  marks-dom (int_dom rs es) g h r = let p : resolve_exs es g ≡ es = cc in marks-numbers es g h p
  marks-dom (name_dom a) g h r = tt
  marks-dom (tuple_dom ds) g h r = let p : resolve_doms ds g ≡ ds = cc in marks-doms ds g h p
  marks-dom (record_dom fs ds) g h r = let p : resolve_doms ds g ≡ ds = cc in marks-doms ds g h p
  marks-dom (matrix_dom is d) g h r =
      let p : resolve_doms is g ≡ is = cc in let q : resolve_dom d g ≡ d = cc in (marks-doms is g h.0 p, marks-dom d g h.1 q)
  marks-dom (set_dom ms es d) g h r =
      let p : resolve_exs es g ≡ es = cc in let q : resolve_dom d g ≡ d = cc in (marks-numbers es g h.0 p, marks-dom d g h.1 q)
  marks-dom (mset_dom ms es d) g h r =
      let p : resolve_exs es g ≡ es = cc in let q : resolve_dom d g ≡ d = cc in (marks-numbers es g h.0 p, marks-dom d g h.1 q)
  marks-dom (function_dom ms es d c) g h r =
      let p : resolve_exs es g ≡ es = cc in let q : resolve_dom d g ≡ d = cc in let s : resolve_dom c g ≡ c = cc in
      (marks-numbers es g h.0 p, marks-dom d g h.1 q, marks-dom c g h.2 s)
  marks-dom (relation_dom ms es ds) g h r =
      let p : resolve_exs es g ≡ es = cc in let q : resolve_doms ds g ≡ ds = cc in (marks-numbers es g h.0 p, marks-doms ds g h.1 q)
  marks-dom (partition_dom ms es d) g h r =
      let p : resolve_exs es g ≡ es = cc in let q : resolve_dom d g ≡ d = cc in (marks-numbers es g h.0 p, marks-dom d g h.1 q)

  marks-doms : (ds : Doms) (g : Names Ty) → DomsHaveTypes ds g → resolve_doms ds g ≡ ds → DomsHaveMarks ds g
  marks-doms no_doms g h r = tt
  marks-doms (more_doms d ds) g h r =
      let p : resolve_dom d g ≡ d = cc in let q : resolve_doms ds g ≡ ds = cc in (marks-dom d g h.0 p, marks-doms ds g h.1 q)

-- Marks of typed trees.
pub typed-trees-have-marks : TypedTreesHaveMarks
typed-trees-have-marks e g h r = marks e g h r
