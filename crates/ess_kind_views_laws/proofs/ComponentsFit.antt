-- A component of a view of a judged domain may stand in the component's place, where marks are right, and each child's kinds are ones for
-- its domain.
use Rattle.std.proofs.Common.{◌≡◌, refl, sym, ap, subst, ℕ, zero, suc, Bool, true, false, if◌then◌else◌, List, [], ◌∷◌, take, drop, Option, Some}
use Rattle.std.specs.Prelude.{IsTrue}
use Rattle.ess_semantics.specs.declared.words.ReprKind.{ReprKind}
use Rattle.ess_semantics.specs.Values.{Text}
use Rattle.ess_semantics.specs.Order.{same_text}
use Rattle.ess_semantics.specs.Trees.{Repr, Reprs, repr, no_reprs, more_reprs, Ex, Exs, seen_ex, Dom, Doms, bool_dom, int_dom, name_dom, tuple_dom, record_dom, matrix_dom, set_dom, mset_dom, function_dom, relation_dom, partition_dom, no_doms, more_doms}
use Rattle.ess_semantics.specs.Types.{Ty, is_bool, type_of_dom, types_of_doms}
use Rattle.ess_semantics.specs.Typing.{component_ty, field_ty}
use Rattle.ess_semantics.specs.Domains.{tuples, records}
use Rattle.ess_semantics.specs.Representations.{width}
use Rattle.ess_semantics.specs.Meaning.{Env, domains_of}
use Rattle.ess_repr_laws.specs.Rooms.{Roomy}
use Rattle.ess_repr_laws.proofs.MembersHaveTables.{roomy-covered}
use Rattle.ess_repr_declare_laws.proofs.SizeNumbers.{mapped}
use Rattle.ess_repr_structure_laws.specs.Laws.{JudgedView}
use Rattle.ess_repr_structure_laws.proofs.ReadyParts.{Known}
use Rattle.ess_repr_structure_laws.proofs.JudgedViews.{judged-known}
use Rattle.ess_rules_laws.specs.FunctionKeys.{fits_mark}
use Rattle.ess_refine_laws.specs.AllRules.{OfSome}
use Rattle.ess_views_laws.specs.ComponentViews.{child_at, child_of_field}
use Rattle.ess_views_kept_laws.specs.ComponentsKept.{fits_place, CoveredOver}
use Rattle.ess_kind_rules_laws.specs.ViewListings.{dom_seen}
use Rattle.ess_kind_steps_laws.specs.JudgedItems.{JudgedSeen}
use Rattle.ess_kind_views_laws.specs.PartsAtHand.{has_no_index}

-- ---- marks

-- Where the mark says whether the domain's type is bool, a view of it fits the place.
pub mark-fits : (b : Bool) (d : Dom) → has_no_index d ≡ false → b ≡ is_bool (Some (type_of_dom d)) → IsTrue (fits_mark b d)
mark-fits true bool_dom h q = refl
mark-fits false bool_dom h q = refl
mark-fits b (int_dom rs es) h q = ap (λ z. fits_mark z (int_dom rs es)) q
mark-fits b (name_dom a) h q = ap (λ z. fits_mark z (name_dom a)) q
mark-fits b (tuple_dom ds) h q = ap (λ z. fits_mark z (tuple_dom ds)) q
mark-fits b (record_dom fs ds) h q = ap (λ z. fits_mark z (record_dom fs ds)) q
mark-fits b (matrix_dom no_doms d) h q = cc
mark-fits b (matrix_dom (more_doms i is) d) h q = ap (λ z. fits_mark z (matrix_dom (more_doms i is) d)) q
mark-fits b (set_dom ms es d) h q = ap (λ z. fits_mark z (set_dom ms es d)) q
mark-fits b (mset_dom ms es d) h q = ap (λ z. fits_mark z (mset_dom ms es d)) q
mark-fits b (function_dom ms es d c) h q = ap (λ z. fits_mark z (function_dom ms es d c)) q
mark-fits b (relation_dom ms es ds) h q = ap (λ z. fits_mark z (relation_dom ms es ds)) q
mark-fits b (partition_dom ms es d) h q = ap (λ z. fits_mark z (partition_dom ms es d)) q

-- The mark says whether the type is bool, if there is one.
abbrev pub Marks : Bool → Option Ty → Type 0
Marks b o = (t : Ty) → o ≡ Some t → b ≡ is_bool (Some t)

-- It has an index if it is a matrix, and fits the place.
abbrev HasIndex : Ex → Type 0
HasIndex f = has_no_index (dom_seen f) ≡ false

abbrev Fits : Bool → Ex → Type 0
Fits b f = IsTrue (fits_place b f)

-- ---- components

pub child-fits : (k : ℕ) (rs : Reprs) (ds : Doms) (ns : List Text) (js : Exs) (b : Bool) → OfSome (child_at k rs ds ns js) HasIndex →
    Marks b (component_ty (types_of_doms ds) k) → OfSome (child_at k rs ds ns js) (Fits b)
child-fits (suc zero) (more_reprs r rs) (more_doms d ds) ns js b i h = mark-fits b d i (h (type_of_dom d) refl)
child-fits (suc (suc k)) (more_reprs r rs) (more_doms d ds) ns js b i h = child-fits (suc k) rs ds (drop (width r) ns) js b i h
child-fits zero rs ds ns js b i h = tt
child-fits (suc zero) no_reprs ds ns js b i h = tt
child-fits (suc zero) (more_reprs r rs) no_doms ns js b i h = tt
child-fits (suc (suc k)) no_reprs ds ns js b i h = tt
child-fits (suc (suc k)) (more_reprs r rs) no_doms ns js b i h = tt

-- ---- fields

-- One of two components.
chosen-fits : (b c : Bool) (r : Repr) (d : Dom) (ns : List Text) (js : Exs) (o : Option Ex) (p : Option Ty) →
    (OfSome o HasIndex → Marks b p → OfSome o (Fits b)) → OfSome (if c then Some (seen_ex r d ns js) else o) HasIndex →
    Marks b (if c then Some (type_of_dom d) else p) → OfSome (if c then Some (seen_ex r d ns js) else o) (Fits b)
chosen-fits b true r d ns js o p rest i h = mark-fits b d i (h (type_of_dom d) refl)
chosen-fits b false r d ns js o p rest i h = rest i h

pub field-fits : (a : Text) (fs : List Text) (rs : Reprs) (ds : Doms) (ns : List Text) (js : Exs) (b : Bool) →
    OfSome (child_of_field a fs rs ds ns js) HasIndex → Marks b (field_ty fs (types_of_doms ds) a) →
    OfSome (child_of_field a fs rs ds ns js) (Fits b)
field-fits a (f ∷ fs) (more_reprs r rs) (more_doms d ds) ns js b i h =
    chosen-fits b (same_text f a) r d (take (width r) ns) js (child_of_field a fs rs ds (drop (width r) ns) js)
    (field_ty fs (types_of_doms ds) a) (field-fits a fs rs ds (drop (width r) ns) js b) i h
field-fits a [] rs ds ns js b i h = tt
field-fits a (f ∷ fs) no_reprs ds ns js b i h = tt
field-fits a (f ∷ fs) (more_reprs r rs) no_doms ns js b i h = tt

-- ---- kinds

-- Each child's kinds are ones for its domain, of a tuple and of a record.
pub components-covered : (rs : Reprs) (ds : Doms) (env : Env) → JudgedSeen (repr ReprKind.Tuple rs) (tuple_dom ds) env →
    CoveredOver rs (domains_of ds env)
components-covered rs ds env j =
    let v : JudgedView env j.names (repr ReprKind.Tuple rs) (tuple_dom ds) j.domain = j.judged in
    let i : Known env j.names j.differ (repr ReprKind.Tuple rs) (tuple_dom ds) j.domain =
    judged-known env j.names j.differ (repr ReprKind.Tuple rs) (tuple_dom ds) j.domain j.judged in
    let m = mapped tuples (domains_of ds env) j.domain v.denotes in
    subst (CoveredOver rs) (sym m.1)
    (roomy-covered (repr ReprKind.Tuple rs) (tuples m.0) (subst (Roomy (repr ReprKind.Tuple rs)) (sym m.2) i.room))

pub fields-covered : (rs : Reprs) (fs : List Text) (ds : Doms) (env : Env) → JudgedSeen (repr ReprKind.Rec rs) (record_dom fs ds) env →
    CoveredOver rs (domains_of ds env)
fields-covered rs fs ds env j =
    let v : JudgedView env j.names (repr ReprKind.Rec rs) (record_dom fs ds) j.domain = j.judged in
    let i : Known env j.names j.differ (repr ReprKind.Rec rs) (record_dom fs ds) j.domain =
    judged-known env j.names j.differ (repr ReprKind.Rec rs) (record_dom fs ds) j.domain j.judged in
    let m = mapped (records fs) (domains_of ds env) j.domain v.denotes in
    subst (CoveredOver rs) (sym m.1)
    (roomy-covered (repr ReprKind.Rec rs) (records fs m.0) (subst (Roomy (repr ReprKind.Rec rs)) (sym m.2) i.room))
