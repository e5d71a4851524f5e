-- What a view of nested sets offers in the place of a generator over it: its members, with values.
use Rattle.std.proofs.Common.{◌≡◌, refl, ℕ, Bool, true, false, List, [], ◌∷◌, Option, Some, subst}
use Rattle.ess_semantics.specs.declared.words.ReprKind.{ReprKind}
use Rattle.ess_semantics.specs.Values.{Text}
use Rattle.ess_semantics.specs.Trees.{Mark, Repr, repr, no_reprs, more_reprs, Ex, Exs, seen_ex, Dom, set_dom}
use Rattle.ess_semantics.specs.Membership.{no_negative_attribute}
use Rattle.ess_semantics.specs.Kinds.{fits}
use Rattle.ess_semantics.specs.Meaning.{Env, domain_of}
use Rattle.ess_semantics.specs.Meets.{Meets, MeetsDom}
use Rattle.ess_semantics.specs.Substitution.{NamesAre}
use Rattle.ess_nested_laws.specs.NestedDomains.{is_nested_dom}
use Rattle.ess_nested_laws.proofs.NestedForms.{no-yes, WrittenAtom, written_truths, written_numbers, atom-form, NestedSet, of_atoms, of_sets, nested-form}
use Rattle.ess_nested_laws.proofs.NestedDenoted.{written_domain, atom-denoted, atom-natural, nested-denoted, nested-natural}
use Rattle.ess_bare_structures_laws.proofs.NestedViews.{nested-view}
use Rattle.ess_bare_structures_laws.proofs.NestedDepths.{nested-at, nested-orderly}
use Rattle.ess_bare_structures_laws.proofs.SpreadNames.{spread, spread-apart}
use Rattle.ess_repr_declare_laws.specs.SizeTerms.{slots_ex, dummy_ex}
use Rattle.ess_rules_laws.specs.Rules.{Unused}
use Rattle.ess_rules_laws.specs.Listings.{Alternative}
use Rattle.ess_values_along_laws.specs.Valued.{Valued}
use Rattle.ess_values_sources_laws.specs.ListedValues.{Under}
use Rattle.ess_kind_values_laws.proofs.ess_values_views_laws.SetViewsKeepValues.{set-views-keep-values}
use Rattle.ess_kind_rules_laws.specs.ViewListings.{view_listing}
use Rattle.ess_kinds_kept_laws.specs.ViewAsks.{ViewAsks}
use Rattle.ess_kinds_kept_laws.proofs.ViewsOffer.{views-offer}
use Rattle.ess_kind_sizes_laws.proofs.SetListings.{of_all, of_marked, of_flagged, of_dummies}
use Rattle.ess_kind_values_laws.specs.ess_kind_steps_laws.JudgedItems.{JudgedSeen}
use Rattle.ess_kind_values_laws.proofs.ess_kind_steps_laws.JudgedSets.{slots-are, inner-there, dummy-is}
use Rattle.ess_kind_values_laws.proofs.SizesValued.{slots-valued, dummy-valued}
use Rattle.ess_seen_laws.specs.Seen.{Keeps, as_an_atom, by_occurrence, with_a_dummy, in_slots, with_a_marker, with_flags}

-- ---- domains

-- A view of nested sets is one of a judged domain.
pub judged : (p : Repr) (ms : List Mark) (es : Exs) (d : Dom) → is_nested_dom (set_dom ms es d) ≡ true → fits p (set_dom ms es d) ≡ true →
    (env : Env) → JudgedSeen p (set_dom ms es d) env
judged p ms es d h f env = record {
  names = spread;
  differ = spread-apart;
  domain = written_domain (set_dom ms es d);
  judged = nested-view env spread p (nested-form 250 (set_dom ms es d) h) (nested-orderly 250 (nested-at 250 (set_dom ms es d) h)) f;
}

-- What the members' domain denotes, whatever the env.
pub inner-denoted : {ms : List Mark} {es : Exs} {d : Dom} (env : Env) → NestedSet (set_dom ms es d) →
    (domain_of d env ≡ Some (written_domain d)) × (no_negative_attribute (written_domain d) ≡ true)
inner-denoted env (of_atoms s a) = (atom-denoted a env, atom-natural a)
inner-denoted env (of_sets s n) = (nested-denoted n env, nested-natural n)

-- The dummy of an atom has no name.
pub dummy-named : {d : Dom} (u b : Text → Bool) → WrittenAtom d → NamesAre u b (dummy_ex d)
dummy-named u b written_truths = tt
dummy-named u b written_numbers = (tt, (tt, tt))

-- ---- listings

-- An alternative is the one that is said.
that-one : {a b : Alternative} → Some a ≡ Some b → a ≡ b
that-one q = cc

module _ (cells : Text → Option (Bool × List ℕ)) (x z : Text) (zs : List Text) (ms : List Mark) (es : Exs) (d : Dom) (js : Exs)
    (env : Env) where
  abbrev V : Repr → List Text → Ex
  V p ns = seen_ex p (set_dom ms es d) ns js

  -- The listing of a view has what it asks.
  pub asked : {ks : List ℕ} {p : Repr} {ns : List Text} → Keeps cells ks p (set_dom ms es d) ns → JudgedSeen p (set_dom ms es d) env →
      MeetsDom (set_dom ms es d) env → Unused x (V p ns) → ViewAsks x z zs (V p ns) env
  asked (as_an_atom w q) h m u = absurd (no-yes w)
  asked (by_occurrence k {n = n} s w q) h m u = (u, inner-there ms es d (n ∷ []) js env h)
  asked (with_a_dummy {n = n} s w b c q) h m u = (
    u,
    dummy-named _ _ (atom-form d w),
    slots-are (repr ReprKind.ExplicitVarSizeWithDummy no_reprs) ms es d (n ∷ []) js env h m,
    dummy-is ms es d (n ∷ []) js env h m.1,
  )
  asked (in_slots {r = r} {ns = ns} s c g) h m u =
      (u, slots-are (repr ReprKind.Explicit (more_reprs r no_reprs)) ms es d ns js env h m)
  asked (with_a_marker {r = r} {m = n} {ns = ns} s c q g) h m u =
      (u, slots-are (repr ReprKind.ExplicitVarSizeWithMarker (more_reprs r no_reprs)) ms es d (n ∷ ns) js env h m)
  asked (with_flags {r = r} {m = n} {ns = ns} s c q g) h m u =
      (u, slots-are (repr ReprKind.ExplicitVarSizeWithFlags (more_reprs r no_reprs)) ms es d (n ∷ ns) js env h m)

  module _ (nested : NestedSet (set_dom ms es d)) where
    slots-there : (p : Repr) (ns : List Text) → Valued false (V p ns) env → Valued false (slots_ex (set_dom ms es d)) env
    slots-there p ns v = let i = inner-denoted env nested in let h = v in slots-valued env ms es d (written_domain d) i.0 i.1 h.1

    -- What is offered has values where the view has.
    pub under : {ks : List ℕ} {p : Repr} {ns : List Text} → Keeps cells ks p (set_dom ms es d) ns → JudgedSeen p (set_dom ms es d) env →
        Meets (V p ns) env → Unused x (V p ns) → Valued false (V p ns) env → (a : Alternative) → view_listing x z zs (V p ns) ≡ Some a →
        Under a env
    under (as_an_atom w q) h m u v a e = absurd (no-yes w)
    under (by_occurrence k {n = n} s w q) h m u v a e = subst (λ b. Under b env) (that-one e)
        (set-views-keep-values.of_occurrences x (V (repr ReprKind.Occurrence no_reprs) (n ∷ [])) env u v)
    under (with_a_dummy {n = n} s w b j q) h m u v a e =
        let p = repr ReprKind.ExplicitVarSizeWithDummy no_reprs in
        let t = V p (n ∷ []) in
        let i = inner-denoted env nested in
        let c = v in
        subst (λ b. Under b env) (that-one e)
        (set-views-keep-values.of_slots_with_a_dummy x (slots_ex (set_dom ms es d)) (dummy_ex d) t env u
        (dummy-named _ _ (atom-form d w)) (slots-there p (n ∷ []) v) (dummy-valued env d (written_domain d) i.0 c.1.1) v
        (views-offer x z zs t (of_dummies x ms es d js n) refl env
        (asked (with_a_dummy {n = n} s w b j q) h m.1 u) m))
    under (in_slots {r = r} {ns = ns} s j g) h m u v a e =
        let p = repr ReprKind.Explicit (more_reprs r no_reprs) in
        let t = V p ns in
        subst (λ b. Under b env) (that-one e)
        (set-views-keep-values.of_slots_all_in_use x (slots_ex (set_dom ms es d)) t env u (slots-there p ns v) v
        (views-offer x z zs t (of_all x ms es d js r ns) refl env (asked (in_slots s j g) h m.1 u) m))
    under (with_a_marker {r = r} {m = n} {ns = ns} s j q g) h m u v a e =
        let p = repr ReprKind.ExplicitVarSizeWithMarker (more_reprs r no_reprs) in
        let t = V p (n ∷ ns) in
        subst (λ b. Under b env) (that-one e)
        (set-views-keep-values.of_slots_up_to_a_marker x (slots_ex (set_dom ms es d)) t env u (slots-there p (n ∷ ns) v) v
        (views-offer x z zs t (of_marked x ms es d js r n ns) refl env (asked (with_a_marker s j q g) h m.1 u) m))
    under (with_flags {r = r} {m = n} {ns = ns} s j q g) h m u v a e =
        let p = repr ReprKind.ExplicitVarSizeWithFlags (more_reprs r no_reprs) in
        let t = V p (n ∷ ns) in
        subst (λ b. Under b env) (that-one e)
        (set-views-keep-values.of_slots_with_flags x (slots_ex (set_dom ms es d)) t env u (slots-there p (n ∷ ns) v) v
        (views-offer x z zs t (of_flagged x ms es d js r n ns) refl env (asked (with_flags s j q g) h m.1 u) m))
