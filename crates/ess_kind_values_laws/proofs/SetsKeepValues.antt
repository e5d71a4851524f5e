-- Rules of views of sets keep values.
use Rattle.std.proofs.Common.{◌≡◌, refl, ap, ◌∙◌, Bool, true, false, not, List, [], ◌∷◌, Option, Some, None}
use Rattle.ess_semantics.specs.declared.words.Op1.{Op1}
use Rattle.ess_semantics.specs.declared.words.Fun.{Fun}
use Rattle.ess_semantics.specs.declared.words.ReprKind.{ReprKind}
use Rattle.ess_semantics.specs.Lists.{and_then}
use Rattle.ess_semantics.specs.Values.{Text}
use Rattle.ess_semantics.specs.Order.{same_text}
use Rattle.ess_semantics.specs.Domains.{Domain, sets}
use Rattle.ess_semantics.specs.Membership.{no_negative_attribute}
use Rattle.ess_semantics.specs.Names.{Names}
use Rattle.ess_semantics.specs.Trees.{Mark, Repr, Reprs, repr, no_reprs, more_reprs, name_pat, Ex, Exs, comp_ex, seen_ex, ex1, fun1, Gens, from, Dom, set_dom}
use Rattle.ess_semantics.specs.Types.{Ty}
use Rattle.ess_semantics.specs.Meaning.{Env, meaning, domain_of}
use Rattle.ess_semantics.specs.Meets.{Meets}
use Rattle.ess_semantics.proofs.Tests.{and-right}
use Rattle.ess_repr_declare_laws.specs.SizeTerms.{slots_ex, dummy_ex}
use Rattle.ess_repr_declare_laws.proofs.SizeNumbers.{not_below}
use Rattle.ess_repr_declare_laws.proofs.ChildDomainsDenoted.{SetOf, set-of}
use Rattle.ess_repr_structure_laws.specs.Laws.{JudgedView}
use Rattle.ess_rules_laws.specs.Rules.{Unused}
use Rattle.ess_rules_laws.specs.Listings.{Alternative}
use Rattle.ess_rules_laws.specs.ListedSources.{Offers, source_alone, source_parts}
use Rattle.ess_rules_laws.specs.SetSizes.{size_by_slots}
use Rattle.ess_refine_laws.specs.AllRules.{Supply, OfSome}
use Rattle.ess_values_along_laws.specs.Valued.{Valued}
use Rattle.ess_values_sources_laws.specs.ListedValues.{Under}
use Rattle.ess_values_sources_laws.proofs.ListedValues.{listed-sources-keep-values}
use Rattle.ess_values_views_laws.proofs.SetViewsKeepValues.{set-views-keep-values}
use Rattle.ess_kind_rules_laws.specs.ViewListings.{view_listing, listing_of, slots_of_operand}
use Rattle.ess_kind_rules_laws.specs.KindRules.{KindRule, cell_of_an_atom, over_a_view, of_one_view, member_at_a_cell, size_at_the_marker, size_of_slots, kind_rewrite}
use Rattle.ess_kinds_kept_laws.specs.KindAsks.{ViewApart}
use Rattle.ess_kinds_kept_laws.proofs.ViewsOffer.{views-offer}
use Rattle.ess_kind_sizes_laws.specs.SetRules.{is_of_sets}
use Rattle.ess_kind_sizes_laws.specs.ViewsBehind.{is_view_of_set}
use Rattle.ess_kind_sizes_laws.proofs.SetListings.{OfEach, by-kind}
use Rattle.ess_kind_sizes_laws.proofs.ViewsBehind.{dummy-named, some-of}
use Rattle.ess_kind_steps_laws.specs.JudgedItems.{JudgedSeen, IsJudged}
use Rattle.ess_kind_steps_laws.specs.SetsAtHand.{FoldAtHand, AtHand}
use Rattle.ess_kind_steps_laws.proofs.SetsAsked.{set-rules-have}
use Rattle.ess_kind_values_laws.specs.SetsKeepValues.{SetRulesKeepValues}
use Rattle.ess_kind_values_laws.proofs.SizesValued.{slots-valued, dummy-valued}

no : {A : Type 0} → false ≡ true → A
no h = cc

-- ---- sizes

-- What the inner domain of a set of a judged domain denotes.
inner-of : (env : Env) (r : Repr) (ms : List Mark) (es : Exs) (d : Dom) → JudgedSeen r (set_dom ms es d) env →
    (e : Domain) × (domain_of d env ≡ Some e) × (no_negative_attribute e ≡ true)
inner-of env r ms es d j =
    let v : JudgedView env j.names r (set_dom ms es d) j.domain = j.judged in
    let p : SetOf sets ms es d env j.domain = set-of sets ms es d env j.domain v.denotes in (
      p.inner,
      p.part,
      and-right (not_below p.keys) (no_negative_attribute p.inner) (ap no_negative_attribute p.whole ∙ v.plain),
    )

size-valued : (s : Supply) (g : Names Ty) (e f : Ex) → size_by_slots (slots_of_operand e) e ≡ Some f → (env : Env) →
    AtHand s g size_of_slots e env → (w : Bool) → Valued w e env → Valued w f env
size-valued s g (ex1 false Op1.Bar (seen_ex (repr ReprKind.Explicit (more_reprs r no_reprs)) (set_dom ms es d) ns js)) f q env h w i =
    let e = inner-of env (repr ReprKind.Explicit (more_reprs r no_reprs)) ms es d h.views.1 in
    set-views-keep-values.sizes_by_slots (slots_ex (set_dom ms es d))
    (ex1 false Op1.Bar (seen_ex (repr ReprKind.Explicit (more_reprs r no_reprs)) (set_dom ms es d) ns js)) f q env
    (slots-valued env ms es d e.0 e.1 e.2 i.1.0.1) w
size-valued s g _ f q env h w i = cc

-- ---- listings

module _ (env : Env) (x : Text) (ms : List Mark) (es : Exs) (d : Dom) (js : Exs) where
  abbrev View : ReprKind → Reprs → List Text → Ex
  View k rs ns = seen_ex (repr k rs) (set_dom ms es d) ns js

  -- What a view of a set of a judged domain offers has values.
  abbrev Listed : ReprKind → Reprs → List Text → Alternative → Type 0
  Listed k rs ns a =
      JudgedSeen (repr k rs) (set_dom ms es d) env → Unused x (View k rs ns) → Valued false (View k rs ns) env →
      Offers (View k rs ns) (a ∷ []) env → Under a env

  slots-there : (k : ReprKind) (rs : Reprs) (ns : List Text) → JudgedSeen (repr k rs) (set_dom ms es d) env →
      Valued false (View k rs ns) env → Valued false (slots_ex (set_dom ms es d)) env
  slots-there k rs ns j v =
      let e = inner-of env (repr k rs) ms es d j in let h = v in slots-valued env ms es d e.0 e.1 e.2 h.1

  each-listed : OfEach x ms es d js Listed
  each-listed = record {
    occurrences = λ n j u v o. set-views-keep-values.of_occurrences x (View ReprKind.Occurrence no_reprs (n ∷ [])) env u v;
    all = λ r ns j u v o. set-views-keep-values.of_slots_all_in_use x (slots_ex (set_dom ms es d))
        (View ReprKind.Explicit (more_reprs r no_reprs) ns) env u (slots-there ReprKind.Explicit (more_reprs r no_reprs) ns j v) v o;
    marked = λ r m ns j u v o. set-views-keep-values.of_slots_up_to_a_marker x (slots_ex (set_dom ms es d))
        (View ReprKind.ExplicitVarSizeWithMarker (more_reprs r no_reprs) (m ∷ ns)) env u
        (slots-there ReprKind.ExplicitVarSizeWithMarker (more_reprs r no_reprs) (m ∷ ns) j v) v o;
    flagged = λ r m ns j u v o. set-views-keep-values.of_slots_with_flags x (slots_ex (set_dom ms es d))
        (View ReprKind.ExplicitVarSizeWithFlags (more_reprs r no_reprs) (m ∷ ns)) env u
        (slots-there ReprKind.ExplicitVarSizeWithFlags (more_reprs r no_reprs) (m ∷ ns) j v) v o;
    dummies = λ t j u v o.
        let e = inner-of env (repr ReprKind.ExplicitVarSizeWithDummy no_reprs) ms es d j in
        set-views-keep-values.of_slots_with_a_dummy x (slots_ex (set_dom ms es d)) (dummy_ex d)
        (View ReprKind.ExplicitVarSizeWithDummy no_reprs (t ∷ [])) env u
        (dummy-named (λ a. not (same_text x a)) (λ a. true) refl d u.0.1)
        (slots-there ReprKind.ExplicitVarSizeWithDummy no_reprs (t ∷ []) j v) (dummy-valued env d e.0 e.1 v.1.1) v o;
  }

-- ---- folds

module _ (s : Supply) (g : Names Ty) (m : Bool) (f : Fun) (y : Text) (t e : Ex) (hs : Gens) (env : Env) (w : Bool) where
  abbrev Root : Ex
  Root = fun1 m f (comp_ex e (from (name_pat y) t hs))

  -- What the view offers has values.
  fold-under : FoldAtHand s y t e hs env → Unused s.one t → Valued false t env → (a : Alternative) →
      view_listing s.one s.other s.parts t ≡ Some a → Offers t (a ∷ []) env → Under a env
  fold-under h u v a q o = go t h.judged u v h.view q o
    where
      go : (t : Ex) → IsJudged t env → Unused s.one t → Valued false t env → is_view_of_set t ≡ true →
          view_listing s.one s.other s.parts t ≡ Some a → Offers t (a ∷ []) env → Under a env
      go (seen_ex (repr k rs) (set_dom ms es d) ns js) j u v c q o =
          some-of (listing_of k s.one s.other s.parts (seen_ex (repr k rs) (set_dom ms es d) ns js))
          (Listed env s.one ms es d js k rs ns) a
          (by-kind s.one ms es d js (Listed env s.one ms es d js) (each-listed env s.one ms es d js) s.other s.parts k rs ns) q j u v o
      go _ j u v c q o = no c

  -- What is asked of the view, where it fires.
  abbrev Given : Alternative → Type 0
  Given a = ViewApart s a t Root env

  parts-keep : (o : Option Alternative) → view_listing s.one s.other s.parts t ≡ o → OfSome o Given → FoldAtHand s y t e hs env →
      Unused s.one t → Valued w Root env → Meets t env → (r : Ex) →
      and_then o (λ a. source_parts (a ∷ []) Root) ≡ Some r → Valued w r env
  parts-keep None l k h u v n r q = cc
  parts-keep (Some a) l k h u v n r q =
      let o = views-offer s.one s.other s.parts t a l env k.4 n in
      listed-sources-keep-values.in_parts k.0 k.1 (a ∷ []) Root r q k.2 env (k.3, o) (fold-under h u v.1.0.1.0 a l o, tt) w v

  alone-keeps : (o : Option Alternative) → view_listing s.one s.other s.parts t ≡ o → OfSome o Given → FoldAtHand s y t e hs env →
      Unused s.one t → Valued w Root env → Meets t env → (r : Ex) → and_then o (λ a. source_alone a Root) ≡ Some r →
      meaning Root env ≡ meaning r env → Valued w r env
  alone-keeps None l k h u v n r q p = cc
  alone-keeps (Some a) l k h u v n r q p =
      let o = views-offer s.one s.other s.parts t a l env k.4 n in
      listed-sources-keep-values.alone k.0 k.1 a Root r q k.2 env (k.3, o) (fold-under h u v.1.0.1.0 a l o) p w v

-- ---- each rule

parts-rule : (s : Supply) (g : Names Ty) (e r : Ex) → kind_rewrite s g over_a_view e ≡ Some r → (env : Env) →
    AtHand s g over_a_view e env → (w : Bool) → Valued w e env → Meets e env → Valued w r env
parts-rule s g (fun1 m f (comp_ex e (from (name_pat y) t hs))) r q env h w v n =
    let k = set-rules-have.asked s g over_a_view (fun1 m f (comp_ex e (from (name_pat y) t hs))) r q refl env h w v n in
    parts-keep s g m f y t e hs env w (view_listing s.one s.other s.parts t) refl k.0 h.views h.new.0.1.1 v n.0.0 r q
parts-rule s g _ r q env h w v n = cc

alone-rule : (s : Supply) (g : Names Ty) (e r : Ex) → kind_rewrite s g of_one_view e ≡ Some r → (env : Env) →
    AtHand s g of_one_view e env → (w : Bool) → Valued w e env → Meets e env → Valued w r env
alone-rule s g (fun1 m f (comp_ex e (from (name_pat y) t hs))) r q env h w v n =
    let k = set-rules-have.asked s g of_one_view (fun1 m f (comp_ex e (from (name_pat y) t hs))) r q refl env h w v n in
    let p = set-rules-have.kept s g of_one_view (fun1 m f (comp_ex e (from (name_pat y) t hs))) r q refl env h w v n in
    alone-keeps s g m f y t e hs env w (view_listing s.one s.other s.parts t) refl k h.views h.new.0.1.1 v n.0.0 r q p.0
alone-rule s g _ r q env h w v n = cc

-- Values stay.
pub set-rules-keep-values : SetRulesKeepValues
set-rules-keep-values s g r e f q i env h w m v = go r q i h
  where
    go : (r : KindRule) → kind_rewrite s g r e ≡ Some f → is_of_sets r ≡ true → AtHand s g r e env → Valued w f env
    go cell_of_an_atom q i h =
        let p = set-rules-have.kept s g cell_of_an_atom e f q i env h w v m in
        set-views-keep-values.atoms_by_cells e f q env p.0 w v
    go over_a_view q i h = parts-rule s g e f q env h w v m
    go of_one_view q i h = alone-rule s g e f q env h w v m
    go member_at_a_cell q i h = set-views-keep-values.members_by_cells e f q env w v
    go size_at_the_marker q i h =
        let p = set-rules-have.kept s g size_at_the_marker e f q i env h w v m in
        set-views-keep-values.sizes_by_markers e f q env p.0 w v
    go size_of_slots q i h = size-valued s g e f q env h w v
    go _ q i h = no i
