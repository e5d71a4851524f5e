-- Resolved trees with marks are steady.
use Rattle.std.proofs.Common.{◌≡◌, refl, sym, ap, ◌∙◌, Bool, true, false, not, List, [], ◌∷◌, Option, Some, None}
use Rattle.ess_semantics.specs.Lists.{and_then}
use Rattle.ess_semantics.specs.Values.{a_tuple, a_record}
use Rattle.ess_semantics.specs.Names.{Names}
use Rattle.ess_semantics.specs.Trees.{Step, by_value, to_component, to_field, Op, index, Ex, Exs, number_ex, truth_ex, name_ex, node_ex, matrix_ex, comp_ex, cell_ex, seen_ex, no_exs, more_exs, Gens, no_gens, over, from, cond, Dom, Doms, bool_dom, int_dom, name_dom, tuple_dom, record_dom, matrix_dom, set_dom, mset_dom, function_dom, relation_dom, partition_dom, no_doms, more_doms}
use Rattle.ess_semantics.specs.Types.{Ty, compound, type_of_dom, bind_types}
use Rattle.ess_semantics.specs.Typing.{Static, a_number, a_name, other, static, statics, step_ty, part_ty, path_ty, type_of_node, type_of, types_of, source_ty}
use Rattle.ess_semantics.specs.Resolving.{step_at, steps_from, resolved_steps, kept_indices, kept_operands, resolve, resolve_exs, resolve_dom, resolve_doms}
use Rattle.ess_semantics.specs.NamesAt.{names_behind}
use Rattle.ess_semantics.proofs.Tests.{and-both}
use Rattle.ess_types_laws.proofs.ResolvedTypes.{gens_resolved, comp-resolved}
use Rattle.ess_refine_laws.specs.MarksStay.{MarkFits, HasMarks, HaveMarks, GensHaveMarks, DomHasMarks, DomsHaveMarks}
use Rattle.ess_rules_types_laws.specs.PutTypes.{is_stepped, by_values, is_by_values, IsSteady, AreSteady, GensAreSteady, DomIsSteady, DomsAreSteady}
use Rattle.ess_steady_laws.specs.SteadyTrees.{MarkedTreesAreSteady}

-- ---- steps

-- A step that stays by value, and leads somewhere, leads into no tuple and no record.
not-stepped : (t : Ty) (s : Static) (u : Option Ty) (F : Ty → Option Ty) (v : Ty) → step_at (Some t) s ≡ by_value →
    and_then (step_ty t s u) F ≡ Some v → is_stepped (Some t) ≡ false
not-stepped (compound a_tuple ts) (a_number k) u F v h q = cc
not-stepped (compound a_tuple ts) (a_name a) u F v h q = cc
not-stepped (compound a_tuple ts) other u F v h q = cc
not-stepped (compound (a_record fs) ts) (a_number k) u F v h q = cc
not-stepped (compound (a_record fs) ts) (a_name a) u F v h q = cc
not-stepped (compound (a_record fs) ts) other u F v h q = cc
not-stepped _ s u F v h q = refl

-- The first steps and the others.
first-step : (q r : Step) (qs rs : List Step) → q ∷ qs ≡ r ∷ rs → (q ≡ r) × (qs ≡ rs)
first-step q r qs rs e = (cc, cc)

steady-steps : (o : Option Ty) (qs : List Step) (ss : List Static) (us : List (Option Ty)) (v : Ty) → steps_from o qs ss us ≡ qs →
    and_then o (λ p. path_ty p qs ss us) ≡ Some v → by_values o qs ss us ≡ true
steady-steps None qs ss us v h q = cc
steady-steps (Some t) [] ss us v h q = refl
steady-steps (Some t) (by_value ∷ qs) [] us v h q = refl
steady-steps (Some t) (by_value ∷ qs) (s ∷ ss) [] v h q = refl
steady-steps (Some t) (by_value ∷ qs) (s ∷ ss) (u ∷ us) v h q =
    let f = first-step (step_at (Some t) s) by_value (steps_from (step_ty t s u) qs ss us) qs h in
    and-both (not (is_stepped (Some t))) (by_values (step_ty t s u) qs ss us)
    (ap not (not-stepped t s u (λ p. path_ty p qs ss us) v f.0 q)) (steady-steps (step_ty t s u) qs ss us v f.1 q)
steady-steps (Some t) (to_component k ∷ qs) ss us v h q =
    let f = first-step (to_component k) (to_component k) (steps_from (part_ty t (a_number k)) qs ss us) qs h in
    steady-steps (part_ty t (a_number k)) qs ss us v f.1 q
steady-steps (Some t) (to_field a ∷ qs) ss us v h q =
    let f = first-step (to_field a) (to_field a) (steps_from (part_ty t (a_name a)) qs ss us) qs h in
    steady-steps (part_ty t (a_name a)) qs ss us v f.1 q

index-steady : (o : Option Ty) (qs : List Step) (s : Static) (ss : List Static) (us : List (Option Ty)) (v : Ty) →
    steps_from o qs ss us ≡ qs →
    type_of_node (index qs) (s ∷ ss) (o ∷ us) ≡ Some v → by_values o qs ss us ≡ true
index-steady None qs s ss us v h q = cc
index-steady (Some t) qs s ss us v h q = steady-steps (Some t) qs ss us v h q

root-type : (b : Bool) (op : Op) (o : Option Ty) → MarkFits b op o → (t : Ty) × (o ≡ Some t)
root-type b op None h = absurd h
root-type b op (Some t) h = (t, refl)

node-steady : (b : Bool) (op : Op) (es : Exs) (g : Names Ty) → MarkFits b op (type_of (node_ex b op es) g) →
    resolve (node_ex b op es) g ≡ node_ex b op es → is_by_values op (statics es) (types_of es g) ≡ true
node-steady b (index qs) no_exs g h r = refl
node-steady b (index qs) (more_exs e es) g h r =
    let s : resolved_steps qs (statics (more_exs e es)) (types_of (more_exs e es) g) ≡ qs = cc in
    let t = root-type b (index qs) (type_of (node_ex b (index qs) (more_exs e es)) g) h in
    index-steady (type_of e g) qs (static e) (statics es) (types_of es g) t.0 s t.1
node-steady b _ es g h r = refl

-- ---- operands

-- Operands of steps that stay by value stay.
kept-indices : (qs : List Step) (es : Exs) → kept_indices qs qs es ≡ es
kept-indices [] es = refl
kept-indices (by_value ∷ qs) no_exs = kept-indices qs no_exs
kept-indices (by_value ∷ qs) (more_exs e es) = ap (more_exs e) (kept-indices qs es)
kept-indices (to_component k ∷ qs) es = kept-indices qs es
kept-indices (to_field a ∷ qs) es = kept-indices qs es

kept-operands : (qs : List Step) (es : Exs) → kept_operands qs qs es ≡ es
kept-operands qs no_exs = refl
kept-operands qs (more_exs e es) = ap (more_exs e) (kept-indices qs es)

-- The operands of a resolved node.
node-parts : (b : Bool) (op : Op) (es : Exs) (g : Names Ty) → resolve (node_ex b op es) g ≡ node_ex b op es → resolve_exs es g ≡ es
node-parts b (index qs) es g r =
    let s : resolved_steps qs (statics es) (types_of es g) ≡ qs = cc in
    let k : kept_operands qs (resolved_steps qs (statics es) (types_of es g)) (resolve_exs es g) ≡ es = cc in
    sym (kept-operands qs (resolve_exs es g)) ∙ ap (λ z. kept_operands qs z (resolve_exs es g)) (sym s) ∙ k
node-parts b op es g r = cc

-- ---- trees

mutual
  steady : (e : Ex) (g : Names Ty) → HasMarks e g → resolve e g ≡ e → IsSteady e g
  steady (number_ex n) g h r = tt
  steady (truth_ex b) g h r = tt
  steady (name_ex a) g h r = tt
  steady (node_ex b op es) g h r =
      (node-steady b op es g h.0 r, steady-all es g h.1 (node-parts b op es g r))
  steady (matrix_ex es d) g h r =
      let p : resolve_exs es g ≡ es = cc in let q : resolve_dom d g ≡ d = cc in (steady-all es g h.0 p, steady-dom d g h.1 q)
  steady (comp_ex e gs) g h r =
      let s : comp_ex (resolve e (names_behind gs g)) (gens_resolved gs g) ≡ comp_ex e gs = sym (comp-resolved e gs g) ∙ r in
      let p : resolve e (names_behind gs g) ≡ e = cc in let q : gens_resolved gs g ≡ gs = cc in
      (steady-gens gs g h.0 q, steady e (names_behind gs g) h.1 p)
  steady (cell_ex b n es) g h r = let p : resolve_exs es g ≡ es = cc in steady-all es g h p
  steady (seen_ex c d ns es) g h r =
      let p : resolve_exs es g ≡ es = cc in let q : resolve_dom d g ≡ d = cc in (steady-dom d g h.0 q, steady-all es g h.1 p)

  steady-all : (es : Exs) (g : Names Ty) → HaveMarks es g → resolve_exs es g ≡ es → AreSteady es g
  steady-all no_exs g h r = tt
  steady-all (more_exs e es) g h r =
      let p : resolve e g ≡ e = cc in let q : resolve_exs es g ≡ es = cc in (steady e g h.0 p, steady-all es g h.1 q)

  steady-gens : (gs : Gens) (g : Names Ty) → GensHaveMarks gs g → gens_resolved gs g ≡ gs → GensAreSteady gs g
  steady-gens no_gens g h r = tt
  steady-gens (over p d gs) g h r =
      let q : resolve_dom d g ≡ d = cc in let s : gens_resolved gs (bind_types p (type_of_dom d) g) ≡ gs = cc in
      (steady-dom d g h.0 q, steady-gens gs (bind_types p (type_of_dom d) g) h.1 s)
  steady-gens (from p e gs) g h r =
      let q : resolve e g ≡ e = cc in let s : gens_resolved gs (bind_types p (source_ty e g) g) ≡ gs = cc in
      (steady e g h.1 q, steady-gens gs (bind_types p (source_ty e g) g) h.2 s)
  steady-gens (cond e gs) g h r =
      let q : resolve e g ≡ e = cc in let s : gens_resolved gs g ≡ gs = cc in (steady e g h.0 q, steady-gens gs g h.1 s)

  steady-dom : (d : Dom) (g : Names Ty) → DomHasMarks d g → resolve_dom d g ≡ d → DomIsSteady d g
  steady-dom bool_dom g h r = tt
  steady-dom (int_dom rs es) g h r = let p : resolve_exs es g ≡ es = cc in steady-all es g h p
  steady-dom (name_dom a) g h r = tt
  steady-dom (tuple_dom ds) g h r = let p : resolve_doms ds g ≡ ds = cc in steady-doms ds g h p
  steady-dom (record_dom fs ds) g h r = let p : resolve_doms ds g ≡ ds = cc in steady-doms ds g h p
  steady-dom (matrix_dom is d) g h r =
      let p : resolve_doms is g ≡ is = cc in let q : resolve_dom d g ≡ d = cc in (steady-doms is g h.0 p, steady-dom d g h.1 q)
  steady-dom (set_dom ms es d) g h r =
      let p : resolve_exs es g ≡ es = cc in let q : resolve_dom d g ≡ d = cc in (steady-all es g h.0 p, steady-dom d g h.1 q)
  steady-dom (mset_dom ms es d) g h r =
      let p : resolve_exs es g ≡ es = cc in let q : resolve_dom d g ≡ d = cc in (steady-all es g h.0 p, steady-dom d g h.1 q)
  steady-dom (function_dom ms es d c) g h r =
      let p : resolve_exs es g ≡ es = cc in let q : resolve_dom d g ≡ d = cc in let s : resolve_dom c g ≡ c = cc in
      (steady-all es g h.0 p, steady-dom d g h.1 q, steady-dom c g h.2 s)
  steady-dom (relation_dom ms es ds) g h r =
      let p : resolve_exs es g ≡ es = cc in let q : resolve_doms ds g ≡ ds = cc in (steady-all es g h.0 p, steady-doms ds g h.1 q)
  steady-dom (partition_dom ms es d) g h r =
      let p : resolve_exs es g ≡ es = cc in let q : resolve_dom d g ≡ d = cc in (steady-all es g h.0 p, steady-dom d g h.1 q)

  steady-doms : (ds : Doms) (g : Names Ty) → DomsHaveMarks ds g → resolve_doms ds g ≡ ds → DomsAreSteady ds g
  steady-doms no_doms g h r = tt
  steady-doms (more_doms d ds) g h r =
      let p : resolve_dom d g ≡ d = cc in let q : resolve_doms ds g ≡ ds = cc in (steady-dom d g h.0 p, steady-doms ds g h.1 q)

-- Marked trees that are resolved.
pub marked-trees-are-steady : MarkedTreesAreSteady
marked-trees-are-steady e g h r = steady e g h r
