-- Components of views of tuples and records are views of the children.
use Rattle.std.proofs.Common.{◌≡◌, refl, sym, ap, ◌∙◌, subst, ℕ, zero, suc, Bool, true, false, ◌&&◌, if◌then◌else◌, List, [], ◌∷◌, take, drop, map, ℤ, Option, Some, None, option_map}
use Rattle.std.specs.Prelude.{IsTrue}
use Rattle.ess_semantics.specs.declared.words.ReprKind.{ReprKind}
use Rattle.ess_semantics.specs.Lists.{is_some_and, or_default}
use Rattle.ess_semantics.specs.Values.{a_record, Text, Value, node, tuple, of_list}
use Rattle.ess_semantics.specs.Order.{same_text, same_texts}
use Rattle.ess_semantics.specs.Trees.{Step, to_component, to_field, index, Repr, Reprs, repr, no_reprs, more_reprs, Ex, Exs, node_ex, seen_ex, no_exs, more_exs, Dom, Doms, no_doms, more_doms, tuple_dom, record_dom}
use Rattle.ess_semantics.specs.Domains.{Domain, Domains, tuples, records, no_domains, more_domains, domain_list}
use Rattle.ess_semantics.specs.Membership.{member, member_of_each}
use Rattle.ess_semantics.specs.Operators.{misfit, component, field_at, value_of_node, false_where_undefined}
use Rattle.ess_semantics.specs.Tables.{Tables}
use Rattle.ess_semantics.specs.Cells.{behind, cells_at}
use Rattle.ess_semantics.specs.Layers.{Layer, first_of_each}
use Rattle.ess_semantics.specs.ScalarLayers.{tuple_layer, record_layer}
use Rattle.ess_semantics.specs.Representations.{width, value_of_cells, value_of_tables, values_of_children}
use Rattle.ess_semantics.specs.Declarations.{declarations_of_children, axes_of}
use Rattle.ess_semantics.specs.Tidy.{over_axes, is_orderly, are_orderly, tidy_cells}
use Rattle.ess_semantics.specs.Meaning.{Env, meaning, meanings, domain_of, domains_of, indices, tables_in, seen_in, is_bool_dom}
use Rattle.ess_semantics.specs.Meets.{Meets, MeetsAll, MeetsDom, MeetsDoms, tidy_in}
use Rattle.ess_semantics.specs.Kept.{Keeps}
use Rattle.ess_semantics.proofs.Tests.{and-left, and-right, and-both, some-and}
use Rattle.ess_repr_laws.specs.Rooms.{AllCovered}
use Rattle.ess_repr_laws.proofs.Behind.{behind-none}
use Rattle.ess_repr_laws.proofs.StructureTuples.{first-cells, other-cells}
use Rattle.ess_rules_laws.proofs.Results.{bool-fits}
use Rattle.ess_rules_laws.proofs.SureArguments.{mark-fits}
use Rattle.ess_views_laws.specs.ComponentViews.{child_at, child_of_field, component_view}
use Rattle.ess_views_kept_laws.specs.ComponentsKept.{fits_place, FitsMark, CoveredOver, ChildrenCovered, ComponentViewsKeep}
use Rattle.ess_views_kept_laws.proofs.SideBySide.{tables-take, tables-drop, child-over, domains-split, domains-some, values-split, made-of}

no : {A : Type 0} → false ≡ true → A
no h = cc

-- ---- a view of a child

-- A view with this value, as it is where it fits the place, whose structure is met.
pub record IsView (f : Ex) (v : Value) (env : Env) : Type 0 where
  pub means : meaning f env ≡ Some v
  pub marked : (b : Bool) → fits_place b f ≡ true → false_where_undefined b (Some v) ≡ Some v
  pub met : Meets f env

-- Tidy tables with their value.
pub view-of : (r : Repr) (d : Dom) (ns : List Text) (js : Exs) (env : Env) (e : Domain) (ts : Tables) (i : List ℤ) (v : Value) →
    domain_of d env ≡ Some e → tables_in env.cells ns ≡ Some ts → indices (meanings js env) ≡ Some i → value_of_tables r e ts i ≡ Some v →
    member e v ≡ true → over_axes i (axes_of r e) ts ≡ true → is_orderly r e (cells_at ts i) ≡ true → MeetsDom d env →
    MeetsAll false js env → IsView (seen_ex r d ns js) v env
view-of r d ns js env e ts i v dq tq iq q m o h md mj = record {
  means = ap (λ z. false_where_undefined (is_bool_dom d) (seen_in r z (tables_in env.cells ns) (indices (meanings js env)))) dq
      ∙ ap (λ z. false_where_undefined (is_bool_dom d) (seen_in r (Some e) z (indices (meanings js env)))) tq
      ∙ ap (λ z. false_where_undefined (is_bool_dom d) (seen_in r (Some e) (Some ts) z)) iq
      ∙ ap (false_where_undefined (is_bool_dom d)) q ∙ bool-fits d e env v dq m;
  marked = λ b f. mark-fits b d e env v f dq m;
  met = (
    ap (λ z. tidy_in r z (tables_in env.cells ns) (indices (meanings js env))) dq
        ∙ ap (λ z. tidy_in r (Some e) z (indices (meanings js env))) tq
        ∙ ap (tidy_in r (Some e) (Some ts)) iq
        ∙ and-both (over_axes i (axes_of r e) ts) (tidy_cells r e (cells_at ts i)) o
        (and-both (is_some_and (value_of_tables r e ts i) (member e)) (is_orderly r e (cells_at ts i))
        (ap (λ z. is_some_and z (member e)) q ∙ m) h),
    md,
    mj,
  );
}

-- ---- all children

-- Each child's view has its value.
abbrev EachView : Reprs → Doms → List Text → Exs → List Value → Env → Type 0
EachView (more_reprs r rs) (more_doms d ds) ns js (v ∷ vs) env =
    IsView (seen_ex r d (take (width r) ns) js) v env × EachView rs ds (drop (width r) ns) js vs env
EachView rs ds ns js vs env = Unit {0}

module _ (js : Exs) (env : Env) (i : List ℤ) (l : Layer) (index-is : indices (meanings js env) ≡ Some i) (mj : MeetsAll false js env) where
  each-view : (rs : Reprs) (ds : Doms) (es : Domains) (ns : List Text) (ts : Tables) (vss : List (List Value)) →
      domains_of ds env ≡ Some es → AllCovered rs (domain_list es) → tables_in env.cells ns ≡ Some ts →
      over_axes i (map (λ t. t.axes) (declarations_of_children false rs (domain_list es) [])) ts ≡ true →
      values_of_children rs (domain_list es) (cells_at ts i) ([] ∷ []) ≡ Some vss →
      are_orderly l rs (domain_list es) (cells_at ts i) ([] ∷ []) ≡ true →
      member_of_each es (of_list (first_of_each vss)) ≡ true → MeetsDoms ds env → EachView rs ds ns js (first_of_each vss) env
  each-view (more_reprs r rs) (more_doms d ds) (more_domains e es) ns ts vss dq c tq o q h m md =
      let p = domains-split (domain_of d env) (domains_of ds env) e es dq in
      let s = values-split (value_of_cells r e (behind [] (take (width r) (cells_at ts i))))
      (values_of_children rs (domain_list es) (drop (width r) (cells_at ts i)) ([] ∷ [])) vss q in
      let a = child-over r e (declarations_of_children false rs (domain_list es) []) i ts c.0 o in
      let first : behind [] (take (width r) (cells_at ts i)) ≡ cells_at (take (width r) ts) i =
      behind-none (take (width r) (cells_at ts i)) ∙ first-cells (width r) i ts in
      let others : drop (width r) (cells_at ts i) ≡ cells_at (drop (width r) ts) i = other-cells (width r) i ts in
      let typed : member e s.0 && member_of_each es (of_list (first_of_each s.1)) ≡ true =
      ap (λ z. member_of_each (more_domains e es) (of_list (first_of_each z))) (sym s.4) ∙ m in
      subst (λ z. EachView (more_reprs r rs) (more_doms d ds) ns js (first_of_each z) env) (sym s.4) (
        view-of r d (take (width r) ns) js env e (take (width r) ts) i s.0 p.0 (tables-take (width r) ns env ts tq) index-is
            (ap (value_of_cells r e) (sym first) ∙ s.2) (and-left _ _ typed) a.0
            (ap (is_orderly r e) (sym first) ∙ and-left _ _ (and-left _ _ (and-left _ _ h))) md.0 mj,
        each-view rs ds es (drop (width r) ns) (drop (width r) ts) s.1 p.1 c.1 (tables-drop (width r) ns env ts tq) a.1
            (ap (λ z. values_of_children rs (domain_list es) z ([] ∷ [])) (sym others) ∙ s.3)
            (ap (λ z. are_orderly l rs (domain_list es) z ([] ∷ [])) (sym others) ∙ and-right _ _ h) (and-right _ _ typed) md.1,
      )
  each-view (more_reprs r rs) (more_doms d ds) no_domains ns ts vss dq c tq o q h m md =
      domains-some (domain_of d env) (domains_of ds env) dq
  each-view no_reprs ds es ns ts vss dq c tq o q h m md = tt
  each-view (more_reprs r rs) no_doms es ns ts vss dq c tq o q h m md = tt

-- ---- one of them

-- The view has the value that is found.
abbrev Found : Option Ex → Option Value → Env → Type 0
Found None o env = Unit {0}
Found (Some f) o env = (v : Value) × (o ≡ Some v) × IsView f v env

-- The values side by side with the children.
abbrev AsMany : Reprs → List Value → Type 0
AsMany no_reprs [] = Unit {0}
AsMany (more_reprs r rs) (v ∷ vs) = AsMany rs vs
AsMany rs vs = ⊥

found-at : (k : ℕ) (rs : Reprs) (ds : Doms) (ns : List Text) (js : Exs) (vs : List Value) (env : Env) → AsMany rs vs →
    EachView rs ds ns js vs env → Found (child_at k rs ds ns js) (component (of_list vs) k) env
found-at (suc zero) (more_reprs r rs) (more_doms d ds) ns js (v ∷ vs) env n h = (v, refl, h.0)
found-at (suc (suc k)) (more_reprs r rs) (more_doms d ds) ns js (v ∷ vs) env n h =
    found-at (suc k) rs ds (drop (width r) ns) js vs env n h.1
found-at zero rs ds ns js vs env n h = tt
found-at (suc zero) no_reprs ds ns js vs env n h = tt
found-at (suc zero) (more_reprs r rs) no_doms ns js vs env n h = tt
found-at (suc (suc k)) no_reprs ds ns js vs env n h = tt
found-at (suc (suc k)) (more_reprs r rs) no_doms ns js vs env n h = tt
found-at (suc zero) (more_reprs r rs) (more_doms d ds) ns js [] env n h = absurd n
found-at (suc (suc k)) (more_reprs r rs) (more_doms d ds) ns js [] env n h = absurd n

found-field : (a : Text) (fs : List Text) (rs : Reprs) (ds : Doms) (ns : List Text) (js : Exs) (vs : List Value) (env : Env) →
    AsMany rs vs → EachView rs ds ns js vs env → Found (child_of_field a fs rs ds ns js) (field_at fs (of_list vs) a) env
found-field a (f ∷ fs) (more_reprs r rs) (more_doms d ds) ns js (v ∷ vs) env n h =
    go (same_text f a) (found-field a fs rs ds (drop (width r) ns) js vs env n h.1)
  where
    go : (b : Bool) → Found (child_of_field a fs rs ds (drop (width r) ns) js) (field_at fs (of_list vs) a) env →
        Found (if b then Some (seen_ex r d (take (width r) ns) js) else child_of_field a fs rs ds (drop (width r) ns) js)
        (if b then Some v else field_at fs (of_list vs) a) env
    go true z = (v, refl, h.0)
    go false z = z
found-field a [] rs ds ns js vs env n h = tt
found-field a (f ∷ fs) no_reprs ds ns js vs env n h = tt
found-field a (f ∷ fs) (more_reprs r rs) no_doms ns js vs env n h = tt
found-field a (f ∷ fs) (more_reprs r rs) (more_doms d ds) ns js [] env n h = absurd n

-- There are as many values as children.
as-many : (rs : Reprs) (es : Domains) (ts : Tables) (i : List ℤ) (vss : List (List Value)) → AllCovered rs (domain_list es) →
    values_of_children rs (domain_list es) (cells_at ts i) ([] ∷ []) ≡ Some vss → AsMany rs (first_of_each vss)
as-many no_reprs es ts i vss c q = let e : [] ≡ vss = cc in subst (λ z. AsMany no_reprs (first_of_each z)) e tt
as-many (more_reprs r rs) no_domains ts i vss c q = absurd c
as-many (more_reprs r rs) (more_domains e es) ts i vss c q =
    let s = values-split (value_of_cells r e (behind [] (take (width r) (cells_at ts i))))
    (values_of_children rs (domain_list es) (drop (width r) (cells_at ts i)) ([] ∷ [])) vss q in
    subst (λ z. AsMany (more_reprs r rs) (first_of_each z)) (sym s.4)
    (as-many rs es (drop (width r) ts) i s.1 c.1
    (ap (λ z. values_of_children rs (domain_list es) z ([] ∷ [])) (sym (other-cells (width r) i ts)) ∙ s.3))

-- ---- the node

-- What a rule answers that fits the mark of its place is kept.
abbrev pub MarkedAnswer : Option Ex → Ex → Env → Type 0
MarkedAnswer None e env = Unit {0}
MarkedAnswer (Some f) e env = FitsMark e f → Keeps e f env

-- So it is where the rule fires.
pub marked-fires : (o : Option Ex) (e f : Ex) (env : Env) → MarkedAnswer o e env → o ≡ Some f → FitsMark e f → Keeps e f env
marked-fires None e f env h q fit = cc
marked-fires (Some g) e f env h q fit = subst (λ z. FitsMark e z → Keeps e z env) (let z : g ≡ f = cc in z) h fit

-- A step into a view has the value that is found.
record Reached (w : Ex) (qs : List Step) (o : Option Ex) (env : Env) : Type 0 where
  pub value : Value
  pub part : Option Value
  pub is_value : meaning w env ≡ Some value
  pub reaches : value_of_node (index qs) (Some value ∷ []) ≡ Some (or_default part misfit)
  pub found : Found o part env

reached-answer : (b : Bool) (qs : List Step) (w : Ex) (env : Env) (o : Option Ex) → (Meets w env → Reached w qs o env) →
    MarkedAnswer o (node_ex b (index qs) (more_exs w no_exs)) env
reached-answer b qs w env None h = tt
reached-answer b qs w env (Some f) h = λ fit m. let r = h m.0 in (
  ap (λ z. false_where_undefined b (value_of_node (index qs) (z ∷ []))) r.is_value
      ∙ ap (false_where_undefined b) r.reaches
      ∙ ap (λ z. false_where_undefined b (Some (or_default z misfit))) r.found.1
      ∙ r.found.2.marked b fit
      ∙ sym r.found.2.means,
  r.found.2.met,
)

-- ---- the views

module _ (rs : Reprs) (ds : Doms) (ns : List Text) (js : Exs) (env : Env) (covered : CoveredOver rs (domains_of ds env)) where
  abbrev TupleView : Ex
  TupleView = seen_ex (repr ReprKind.Tuple rs) (tuple_dom ds) ns js

  abbrev RecordView : List Text → Ex
  RecordView fs = seen_ex (repr ReprKind.Rec rs) (record_dom fs ds) ns js

  tuple-reached : (k : ℕ) (d : Option Domains) (t : Option Tables) (i : Option (List ℤ)) → domains_of ds env ≡ d →
      tables_in env.cells ns ≡ t → indices (meanings js env) ≡ i → IsTrue (tidy_in (repr ReprKind.Tuple rs) (option_map tuples d) t i) →
      MeetsDoms ds env → MeetsAll false js env → Reached TupleView (to_component k ∷ []) (child_at k rs ds ns js) env
  tuple-reached k (Some es) (Some ts) (Some i) dq tq iq h md mj =
      let c : AllCovered rs (domain_list es) = subst (CoveredOver rs) dq covered in
      let z = and-right (over_axes i (axes_of (repr ReprKind.Tuple rs) (tuples es)) ts) _ h in
      let v = some-and (value_of_tables (repr ReprKind.Tuple rs) (tuples es) ts i) (member (tuples es)) (and-left _ _ z) in
      let m = made-of (values_of_children rs (domain_list es) (cells_at ts i) ([] ∷ [])) (λ vss. tuple (of_list (first_of_each vss))) v.0
      v.1 in record {
        value = tuple (of_list (first_of_each m.0));
        part = component (of_list (first_of_each m.0)) k;
        is_value = ap (λ z. seen_in (repr ReprKind.Tuple rs) (option_map tuples z) (tables_in env.cells ns) (indices (meanings js env))) dq
            ∙ ap (λ z. seen_in (repr ReprKind.Tuple rs) (Some (tuples es)) z (indices (meanings js env))) tq
            ∙ ap (seen_in (repr ReprKind.Tuple rs) (Some (tuples es)) (Some ts)) iq ∙ v.1 ∙ ap Some (sym m.2);
        reaches = refl;
        found = found-at k rs ds ns js (first_of_each m.0) env (as-many rs es ts i m.0 c m.1)
            (each-view js env i (tuple_layer es) iq mj rs ds es ns ts m.0 dq c tq (and-left _ _ h) m.1
            (and-right (is_some_and (value_of_tables (repr ReprKind.Tuple rs) (tuples es) ts i) (member (tuples es)))
            (is_orderly (repr ReprKind.Tuple rs) (tuples es) (cells_at ts i)) z) (ap (member (tuples es)) m.2 ∙ v.2) md);
      }
  tuple-reached k (Some es) (Some ts) None dq tq iq h md mj = no h
  tuple-reached k (Some es) None i dq tq iq h md mj = no h
  tuple-reached k None t i dq tq iq h md mj = no h

  record-reached : (a : Text) (fs : List Text) (d : Option Domains) (t : Option Tables) (i : Option (List ℤ)) → domains_of ds env ≡ d →
      tables_in env.cells ns ≡ t → indices (meanings js env) ≡ i → IsTrue (tidy_in (repr ReprKind.Rec rs) (option_map (records fs) d) t i) →
      MeetsDoms ds env → MeetsAll false js env → Reached (RecordView fs) (to_field a ∷ []) (child_of_field a fs rs ds ns js) env
  record-reached a fs (Some es) (Some ts) (Some i) dq tq iq h md mj =
      let c : AllCovered rs (domain_list es) = subst (CoveredOver rs) dq covered in
      let z = and-right (over_axes i (axes_of (repr ReprKind.Rec rs) (records fs es)) ts) _ h in
      let v = some-and (value_of_tables (repr ReprKind.Rec rs) (records fs es) ts i) (member (records fs es)) (and-left _ _ z) in
      let m = made-of (values_of_children rs (domain_list es) (cells_at ts i) ([] ∷ []))
      (λ vss. node (a_record fs) (of_list (first_of_each vss))) v.0 v.1 in record {
        value = node (a_record fs) (of_list (first_of_each m.0));
        part = field_at fs (of_list (first_of_each m.0)) a;
        is_value = ap (λ z. seen_in (repr ReprKind.Rec rs) (option_map (records fs) z) (tables_in env.cells ns)
            (indices (meanings js env))) dq
            ∙ ap (λ z. seen_in (repr ReprKind.Rec rs) (Some (records fs es)) z (indices (meanings js env))) tq
            ∙ ap (seen_in (repr ReprKind.Rec rs) (Some (records fs es)) (Some ts)) iq ∙ v.1 ∙ ap Some (sym m.2);
        reaches = refl;
        found = found-field a fs rs ds ns js (first_of_each m.0) env (as-many rs es ts i m.0 c m.1)
            (each-view js env i (record_layer fs es) iq mj rs ds es ns ts m.0 dq c tq (and-left _ _ h) m.1
            (and-right (is_some_and (value_of_tables (repr ReprKind.Rec rs) (records fs es) ts i) (member (records fs es)))
            (is_orderly (repr ReprKind.Rec rs) (records fs es) (cells_at ts i)) z)
            (and-right (same_texts fs fs) _ (ap (member (records fs es)) m.2 ∙ v.2)) md);
      }
  record-reached a fs (Some es) (Some ts) None dq tq iq h md mj = no h
  record-reached a fs (Some es) None i dq tq iq h md mj = no h
  record-reached a fs None t i dq tq iq h md mj = no h

component-answer : (e : Ex) (env : Env) → ChildrenCovered e env → MarkedAnswer (component_view e) e env
component-answer (node_ex b (index (to_component k ∷ [])) (more_exs (seen_ex (repr ReprKind.Tuple rs) (tuple_dom ds) ns js) no_exs)) env c =
    reached-answer b (to_component k ∷ []) (seen_ex (repr ReprKind.Tuple rs) (tuple_dom ds) ns js) env (child_at k rs ds ns js)
    (λ m. tuple-reached rs ds ns js env c k (domains_of ds env) (tables_in env.cells ns) (indices (meanings js env)) refl refl refl m.0 m.1
    m.2)
component-answer (node_ex b (index (to_field a ∷ [])) (more_exs (seen_ex (repr ReprKind.Rec rs) (record_dom fs ds) ns js) no_exs)) env c =
    reached-answer b (to_field a ∷ []) (seen_ex (repr ReprKind.Rec rs) (record_dom fs ds) ns js) env (child_of_field a fs rs ds ns js)
    (λ m. record-reached rs ds ns js env c a fs (domains_of ds env) (tables_in env.cells ns) (indices (meanings js env)) refl refl refl m.0
    m.1 m.2)
component-answer _ env c = tt

-- Components and fields.
pub components-keep : ComponentViewsKeep
components-keep e f q fit env c = marked-fires (component_view e) e f env (component-answer e env c) q fit
