-- Sets and multisets are ready: what their structures ask of them follows from what is known of them.
use Rattle.std.proofs.Common.{◌≡◌, refl, sym, ap, ◌∙◌, ℕ, ◌<◌, Bool, true, false, if◌then◌else◌, List, [], ◌∷◌, pos, Some, None, option_map}
use Rattle.ess_semantics.specs.declared.words.ReprKind.{ReprKind}
use Rattle.ess_semantics.specs.declared.words.Key.{Key}
use Rattle.ess_semantics.specs.Lists.{and_then}
use Rattle.ess_semantics.specs.Values.{Text}
use Rattle.ess_semantics.specs.Order.{same_text}
use Rattle.ess_semantics.specs.Kinds.{fits, all_fit, has_dummy}
use Rattle.ess_semantics.specs.Membership.{no_negative_attribute}
use Rattle.ess_semantics.specs.Sizes.{slots_of_set, slots_of_mset}
use Rattle.ess_semantics.specs.Trees.{Mark, Repr, repr, no_reprs, more_reprs, Exs, Dom, set_dom, mset_dom}
use Rattle.ess_semantics.specs.Domains.{Attribute, numbered, Domain, sets, msets}
use Rattle.ess_semantics.specs.Meaning.{Env, attributes_of, domain_of, meanings, as_int}
use Rattle.ess_semantics.proofs.Tests.{and-left, and-right}
use Rattle.ess_repr_laws.specs.Rooms.{Roomy}
use Rattle.ess_repr_laws.specs.StructureMeaning.{Attributes, SlotsAre, DomainIs, TimesReady}
use Rattle.ess_repr_laws.specs.StructureReady.{Ready}
use Rattle.ess_repr_declare_laws.specs.ChildDomains.{child_doms}
use Rattle.ess_repr_declare_laws.specs.SizeTerms.{slots_ex, size_terms}
use Rattle.ess_repr_declare_laws.proofs.SizeNumbers.{not_below}
use Rattle.ess_repr_structure_laws.specs.DomainNumbers.{NumbersIn}
use Rattle.ess_repr_structure_laws.proofs.AtomsReady.{atom-ready, dummy-ready}
use Rattle.ess_repr_structure_laws.proofs.FittingChildren.{ChildrenFit, children-fit}
use Rattle.ess_repr_structure_laws.proofs.ReadyParts.{Names, N, Known, listed-is, dummy-atom, dummy-not-bool, axis-are, attributes-are, set-slots-are, mset-slots-are}
use Rattle.ess_repr_structure_laws.proofs.Shapes.{denoted-same, set-parts, mset-parts}

module _ (env0 : Env) (q : ℕ → Text) (q-apart : (m l : ℕ) → l < m → same_text (q m) (q l) ≡ false) where
  -- ---- sets

  -- What is known of the inner domain of a set whose kind has it as its only child.
  pub set-child : (k : ReprKind) (r : Repr) (ms : List Mark) (es : Exs) (d : Dom) (ks : List Attribute) (e : Domain) →
      child_doms k (set_dom ms es d) ≡ d ∷ [] → Known env0 q q-apart (repr k (more_reprs r no_reprs)) (set_dom ms es d) (sets ks e) → Roomy
      r e →
      Known env0 q q-apart r d e
  set-child k r ms es d ks e c i room =
      let f : ChildrenFit k (more_reprs r no_reprs) (set_dom ms es d) = children-fit k (more_reprs r no_reprs) (set_dom ms es d) i.sound
      i.fit in
      record {
        sound = i.sound.2;
        fit = and-left (fits r d) true (sym (ap (all_fit (more_reprs r no_reprs)) c) ∙ f.fit);
        room = room;
        neat = i.neat.1;
        plain = and-right (not_below ks) (no_negative_attribute e) i.plain;
        means = λ bs. let p = set-parts ms es d (N env0 q q-apart bs) ks e (i.means bs) in p.1;
        numbers = λ bs. let n = i.numbers bs in n.1;
      }

  module _ (r : Repr) (ms : List Mark) (es : Exs) (d : Dom) (ks : List Attribute) (e : Domain)
      (i : Known env0 q q-apart r (set_dom ms es d) (sets ks e)) where
    abbrev pub SetReady : Type 0
    SetReady = Attributes env0 q q-apart size_terms ms es ks × SlotsAre env0 q q-apart size_terms (set_dom ms es d) (slots_of_set ks e)

    inner : DomainIs env0 q q-apart d e
    inner bs = let p = set-parts ms es d (N env0 q q-apart bs) ks e (i.means bs) in p.1

    at : (bs : Names env0 q q-apart) → attributes_of ms (meanings es (N env0 q q-apart bs)) ≡ Some ks
    at bs = let p = set-parts ms es d (N env0 q q-apart bs) ks e (i.means bs) in p.0

    -- A set's attributes and slots.
    pub set-ready : SetReady
    set-ready =
        let low = and-left (not_below ks) (no_negative_attribute e) i.plain in
        let plain = and-right (not_below ks) (no_negative_attribute e) i.plain in (
          attributes-are env0 q q-apart ms es d ks e low plain at inner (λ bs. let n = i.numbers bs in n.0)
              (λ bs. let n = i.numbers bs in n.1),
          set-slots-are env0 q q-apart ms es d ks e low plain at inner (λ bs. let n = i.numbers bs in n.0)
              (λ bs. let n = i.numbers bs in n.1),
        )

  -- Which members occur.
  pub occurrence-ready : (ms : List Mark) (es : Exs) (d : Dom) (ks : List Attribute) (e : Domain) →
      Known env0 q q-apart (repr ReprKind.Occurrence no_reprs) (set_dom ms es d) (sets ks e) →
      Ready env0 q q-apart size_terms (repr ReprKind.Occurrence no_reprs) (set_dom ms es d) (sets ks e)
  occurrence-ready ms es d ks e i =
      let l = listed-is e i.room.1 in
      let a = axis-are env0 q q-apart d e (inner (repr ReprKind.Occurrence no_reprs) ms es d ks e i) l in
      let s = set-ready (repr ReprKind.Occurrence no_reprs) ms es d ks e i in
      (i.room.0, l, a.0, s.0)

  -- The inner domain has a dummy where the kind asks it.
  has-dummy : (ms : List Mark) (es : Exs) (d : Dom) → fits (repr ReprKind.ExplicitVarSizeWithDummy no_reprs) (set_dom ms es d) ≡ true →
      has_dummy d ≡ true
  has-dummy ms es d h = go (has_dummy d) h
    where
      go : (b : Bool) → elim (if b then Some [] else None) [ None ↦ false | Some ds ↦ all_fit no_reprs ds ] ≡ true → b ≡ true
      go true h = refl
      go false h = cc

  -- Slots with a dummy.
  pub with-dummy-ready : (ms : List Mark) (es : Exs) (d : Dom) (ks : List Attribute) (e : Domain) →
      Known env0 q q-apart (repr ReprKind.ExplicitVarSizeWithDummy no_reprs) (set_dom ms es d) (sets ks e) →
      Ready env0 q q-apart size_terms (repr ReprKind.ExplicitVarSizeWithDummy no_reprs) (set_dom ms es d) (sets ks e)
  with-dummy-ready ms es d ks e i =
      let h = has-dummy ms es d i.fit in
      let m = inner (repr ReprKind.ExplicitVarSizeWithDummy no_reprs) ms es d ks e i in
      let f = denoted-same d (N env0 q q-apart []) e (m []) in
      let n : (bs : Names env0 q q-apart) → NumbersIn d (N env0 q q-apart bs) = λ bs. let n = i.numbers bs in n.1 in
      let s = set-ready (repr ReprKind.ExplicitVarSizeWithDummy no_reprs) ms es d ks e i in (
        (i.room.0, dummy-not-bool d h, atom-ready env0 q q-apart d e (dummy-atom e i.room.0) f m n),
        dummy-ready env0 q q-apart d e h
            i.room.0 f m n,
        s.0,
        s.1,
      )

  -- ---- multisets

  -- What is known of the inner domain of a multiset.
  pub mset-child : (k : ReprKind) (r : Repr) (ms : List Mark) (es : Exs) (d : Dom) (ks : List Attribute) (e : Domain) →
      child_doms k (mset_dom ms es d) ≡ d ∷ [] → Known env0 q q-apart (repr k (more_reprs r no_reprs)) (mset_dom ms es d) (msets ks e) →
      Roomy r e →
      Known env0 q q-apart r d e
  mset-child k r ms es d ks e c i room =
      let f : ChildrenFit k (more_reprs r no_reprs) (mset_dom ms es d) = children-fit k (more_reprs r no_reprs) (mset_dom ms es d) i.sound
      i.fit in
      record {
        sound = i.sound.2;
        fit = and-left (fits r d) true (sym (ap (all_fit (more_reprs r no_reprs)) c) ∙ f.fit);
        room = room;
        neat = i.neat.1;
        plain = and-right (not_below ks) (no_negative_attribute e) i.plain;
        means = λ bs. let p = mset-parts ms es d (N env0 q q-apart bs) ks e (i.means bs) in p.1;
        numbers = λ bs. let n = i.numbers bs in n.1;
      }

  module _ (r : Repr) (ms : List Mark) (es : Exs) (d : Dom) (ks : List Attribute) (e : Domain)
      (i : Known env0 q q-apart r (mset_dom ms es d) (msets ks e)) where
    mset-inner : DomainIs env0 q q-apart d e
    mset-inner bs = let p = mset-parts ms es d (N env0 q q-apart bs) ks e (i.means bs) in p.1

    mset-at : (bs : Names env0 q q-apart) → attributes_of ms (meanings es (N env0 q q-apart bs)) ≡ Some ks
    mset-at bs = let p = mset-parts ms es d (N env0 q q-apart bs) ks e (i.means bs) in p.0

    -- A multiset's attributes and slots.
    pub mset-ready : Attributes env0 q q-apart size_terms ms es ks × SlotsAre env0 q q-apart size_terms (mset_dom ms es d)
        (slots_of_mset ks e)
    mset-ready =
        let low = and-left (not_below ks) (no_negative_attribute e) i.plain in
        let plain = and-right (not_below ks) (no_negative_attribute e) i.plain in (
          attributes-are env0 q q-apart ms es d ks e low plain mset-at mset-inner (λ bs. let n = i.numbers bs in n.0)
              (λ bs. let n = i.numbers bs in n.1),
          mset-slots-are env0 q q-apart ms es d ks e low plain mset-at mset-inner (λ bs. let n = i.numbers bs in n.0)
              (λ bs. let n = i.numbers bs in n.1),
        )

    -- The domain of as many members as there are slots.
    pub times-ready : TimesReady env0 q q-apart (slots_ex (mset_dom ms es d)) d ks e
    times-ready h bs =
        let s = mset-ready in
        ap (λ o. and_then (and_then (as_int o) (λ n. Some (numbered Key.MaxSize n ∷ [])))
        (λ ks. option_map (msets ks) (domain_of d (N env0 q q-apart bs)))) (s.1 bs)
        ∙ ap (option_map (msets (numbered Key.MaxSize (pos (slots_of_mset ks e)) ∷ []))) (mset-inner bs)

  -- How often each member occurs.
  pub mset-occurrence-ready : (ms : List Mark) (es : Exs) (d : Dom) (ks : List Attribute) (e : Domain) →
      Known env0 q q-apart (repr ReprKind.MSetOccurrence no_reprs) (mset_dom ms es d) (msets ks e) →
      Ready env0 q q-apart size_terms (repr ReprKind.MSetOccurrence no_reprs) (mset_dom ms es d) (msets ks e)
  mset-occurrence-ready ms es d ks e i =
      let s = mset-ready (repr ReprKind.MSetOccurrence no_reprs) ms es d ks e i in (
        i.room.0.0,
        axis-are env0 q q-apart d e (mset-inner (repr ReprKind.MSetOccurrence no_reprs) ms es d ks e i) (listed-is e i.room.0.1),
        s.0,
      )
