-- Comprehensions in any place, at the first generator that isn't plain: comprehensions stay in order where order counts.
use Rattle.std.proofs.Common.{◌≡◌, refl, subst, Bool, true, false, ◌||◌, not, if◌then◌else◌, List, [], ◌∷◌, Option, Some, None, option_map}
use Rattle.ess_semantics.specs.declared.words.ReprKind.{ReprKind}
use Rattle.ess_semantics.specs.Lists.{or_else}
use Rattle.ess_semantics.specs.Occurrences.{has_cells}
use Rattle.ess_semantics.specs.Values.{Text}
use Rattle.ess_semantics.specs.Names.{Names}
use Rattle.ess_semantics.specs.NamesAt.{names_behind}
use Rattle.ess_semantics.specs.Trees.{repr, no_reprs, more_reprs, name_pat, tuple_pat, Ex, name_ex, comp_ex, seen_ex, Gens, no_gens, over, from, cond, matrix_dom, more_doms}
use Rattle.ess_semantics.specs.Types.{Ty}
use Rattle.ess_semantics.proofs.Tests.{and-left, and-right, and-both}
use Rattle.ess_rules_laws.specs.Listings.{Alternative}
use Rattle.ess_rules_laws.specs.AlternativeLookups.{members_of_each}
use Rattle.ess_rules_laws.specs.SpliceRules.{splice}
use Rattle.ess_rules_laws.specs.SplitRules.{split}
use Rattle.ess_rules_laws.specs.TupleNames.{name_over_tuple}
use Rattle.ess_refine_laws.specs.RecordNames.{name_over_record}
use Rattle.ess_refine_laws.specs.AllRules.{Supply, OfSome}
use Rattle.ess_kind_rules_laws.specs.ViewListings.{matrix_listing}
use Rattle.ess_kind_rules_laws.specs.TermLookups.{picks, looked_up}
use Rattle.ess_open_rules_laws.specs.OpenGenerators.{Opened, at_first_open}
use Rattle.ess_open_rules_laws.specs.OpenSources.{picked_members, is_decided, are_decided, decided_one, in_order_told, pattern_opened, opened_in_order, kept_in_order, kept_behind}
use Rattle.ess_given_laws.specs.Given.{is_fixed, given, GivenIn}
use Rattle.ess_given_laws.proofs.FixedTrees.{fixed, has-fixed}
use Rattle.ess_given_order_laws.specs.InOrder.{in_order, gens_in_order, Ordered, GensOrdered, InOrder}
use Rattle.ess_given_order_laws.proofs.OrderedParts.{PutsOrder}
use Rattle.ess_given_order_laws.proofs.OrderOfListings.{SomeAlternatives}
use Rattle.ess_given_order_laws.proofs.OrderOfFolds.{AnsweredFor, spliced, splits, tuple-name, record-name}
use Rattle.ess_given_offers_laws.specs.Seen.{Counts}
use Rattle.ess_given_offers_laws.proofs.FixedOrder.{fixed-order}
use Rattle.ess_given_offers_laws.proofs.OrderOfLookups.{picked-order}
use Rattle.ess_given_offers_laws.proofs.OrderOfViews.{OrderedAlternative, of-matrix}
use Rattle.ess_given_opened_laws.specs.OpenedStays.{ListKept, GensKept, InPlace, PlaceNames, NamesInPlace}
use Rattle.ess_given_opened_laws.proofs.OrderInPlace.{pattern-order, ToldInPlace, told-order, either-for, behind-order}
use Rattle.ess_given_opened_laws.proofs.PartsInOrder.{ToldHas}
use Rattle.ess_given_opened_laws.proofs.PartsOfOpenings.{OpenedHas, opened-has}
use Rattle.ess_given_opened_laws.proofs.PlaceGiven.{told-fixed}
use Rattle.ess_given_opened_laws.proofs.SourcesGiven.{drawn}

module _ (u : Text → Bool) where
  -- ---- what is decided

  no-cells : (b : Bool) → not b ≡ true → b ≡ false
  no-cells true q = cc
  no-cells false q = refl

  mutual
    list-in : (e : Ex) → is_decided e ≡ true → ListKept u e → in_order u e ≡ true
    list-in (comp_ex e gs) q h = gens-in gs q h
    list-in _ q h = cc

    -- Where the conditions that read no table are fixed, what is decided is in order.
    pub gens-in : (gs : Gens) → are_decided gs ≡ true → GensKept u gs → gens_in_order u gs ≡ true
    gens-in no_gens q h = refl
    gens-in (over p d gs) q h = gens-in gs q h
    gens-in (from p t gs) q h = and-both (in_order u t) (gens_in_order u gs)
        (list-in t (and-left (is_decided t) (are_decided gs) q) h.0)
        (gens-in gs (and-right (is_decided t) (are_decided gs) q) h.1)
    gens-in (cond c gs) q h = and-both (is_fixed u c) (gens_in_order u gs)
        (h.0 (no-cells (has_cells c) (and-left (not (has_cells c)) (are_decided gs) q)))
        (gens-in gs (and-right (not (has_cells c)) (are_decided gs) q) h.1)

  -- ---- what is told

  -- The item may be put in: where the name is of u so is what stands for it.
  item-fixed : (y : Text) (o : Option Alternative) → ToldHas (fixed u) y o → OfSome o (λ a. is_fixed u a.item ≡ true)
  item-fixed y None h = tt
  item-fixed y (Some a) h = has-fixed u a.item h.0.0

  matrix-alone : (x : Text) (t : Ex) → OfSome (matrix_listing x t) (λ a. gens_in_order u a.gens ≡ true)
  matrix-alone x (seen_ex (repr ReprKind.Matrix (more_reprs r no_reprs)) (matrix_dom (more_doms i is) d) ns js) = refl
  matrix-alone x _ = tt

  module _ (c : Counts u) (s : Supply) (g : Names Ty) (y : Text) (t : Ex) (n : InPlace u s g t) (d : not (u y) || is_fixed u t ≡ true) where
    puts : (a : Alternative) → in_order_told s g t ≡ Some a → InOrder u a.item → PutsOrder u y a.item
    puts a q k = record {
      kept = k;
      fixed = λ z. subst (λ o. OfSome o (λ a. is_fixed u a.item ≡ true)) q
          (item-fixed y (in_order_told s g t) (told-fixed u c s g y t n (drawn u (u y) (is_fixed u t) d z)));
    }

    -- A matrix has no conditions.
    matrix-in : (a : Alternative) → matrix_listing s.one t ≡ Some a → gens_in_order u a.gens ≡ true
    matrix-in a q = subst (λ o. OfSome o (λ a. gens_in_order u a.gens ≡ true)) q (matrix-alone s.one t)

    pub place-told : Ordered u t → ToldInPlace u y (in_order_told s g t)
    place-told h = go (in_order_told s g t) refl (order (matrix_listing s.one t) refl (of-matrix u s.one t h))
      where
        -- In order are the item and the generators, and the conditions where they are fixed.
        Kept : Option Alternative → Type 0
        Kept o = OfSome o (λ a. (InOrder u a.item × GensOrdered u a.gens) × (GensKept u a.gens → gens_in_order u a.gens ≡ true))

        decided : (o : Option (List Alternative)) → SomeAlternatives u o → Kept (decided_one (option_map (members_of_each s.one s.other) o))
        decided None k = tt
        decided (Some []) k = tt
        decided (Some (a ∷ [])) k = at (are_decided a.gens) refl
          where
            at : (b : Bool) → are_decided a.gens ≡ b → Kept (if b then Some (record {
              gens = from (name_pat s.one) (comp_ex a.item a.gens) (from (name_pat s.other) (name_ex s.one) no_gens);
              item = name_ex s.other;
            }) else None)
            at true q = (((refl, tt), (k.0, (tt, tt))), λ j. and-both (gens_in_order u a.gens) true (gens-in a.gens q j.0) refl)
            at false q = tt
        decided (Some (a ∷ e ∷ l)) k = tt

        picked : (b : Bool) (r : Option (List Alternative)) → SomeAlternatives u r →
            Kept (decided_one (if b then option_map (members_of_each s.one s.other) r else None))
        picked true r k = decided r k
        picked false r k = tt

        order : (r : Option Alternative) → matrix_listing s.one t ≡ r → OrderedAlternative u r →
            Kept (or_else r (decided_one (picked_members s g t)))
        order None q k = picked (picks t) (looked_up g s.third s.parts t) (picked-order u g s.third s.parts t h)
        order (Some a) q k = (k, λ j. matrix-in a q)

        -- Where the source is fixed everything that is told of it is, and what is fixed is in order.
        so-fixed : (a : Alternative) → in_order_told s g t ≡ Some a → is_fixed u t ≡ true → gens_in_order u a.gens ≡ true
        so-fixed a q f = (fixed-order u (comp_ex a.item a.gens) (has-fixed u (comp_ex a.item a.gens)
            (subst (ToldHas (fixed u) y) q (told-fixed u c s g y t n f)).0)).0

        in-place : (a : Alternative) → in_order_told s g t ≡ Some a → (GensKept u a.gens → gens_in_order u a.gens ≡ true) →
            gens_in_order u a.gens ≡ true
        in-place a q k = at (is_fixed u t) refl
          where
            at : (b : Bool) → is_fixed u t ≡ b → gens_in_order u a.gens ≡ true
            at true f = so-fixed a q f
            at false f = k (subst (λ o. OfSome o (λ a. GensKept u a.gens)) q (n.else_kept f))

        go : (r : Option Alternative) → in_order_told s g t ≡ r → Kept r → ToldInPlace u y r
        go None q k = tt
        go (Some a) q k = ((in-place a q k.1, k.0.1), puts a q k.0.0)

  -- ---- the tail

  module _ (c : Counts u) (s : Supply) where
    tail-order : (g : Names Ty) (e : Ex) (hs : Gens) → PlaceNames u s g hs → GivenIn u (comp_ex e hs) → Ordered u (comp_ex e hs) →
        AnsweredFor u (comp_ex e hs) (kept_in_order s g (comp_ex e hs))
    tail-order g e (from (name_pat y) t hs) n i h =
        let at = comp_ex e (from (name_pat y) t hs) in
        either-for u at (splice at) (opened_in_order s g at) (spliced u at i h)
        (told-order u s g e t y hs (place-told c s g y t n i.1.0 h.1.0) h)
    tail-order g e (from (tuple_pat ps) t hs) n i h =
        let at = comp_ex e (from (tuple_pat ps) t hs) in
        either-for u at (pattern_opened g s.one at) None (pattern-order u g s.one at h) tt
    tail-order g e (over p d hs) n i h =
        let at = comp_ex e (over p d hs) in
        either-for u at (split at) (or_else (name_over_tuple s.parts at) (or_else (name_over_record s.parts at) None)) (splits u at h)
        (either-for u at (name_over_tuple s.parts at) (or_else (name_over_record s.parts at) None) (tuple-name u s.parts at h)
        (either-for u at (name_over_record s.parts at) None (record-name u s.parts at h) tt))
    tail-order g e no_gens n i h = tt
    tail-order g e (cond x hs) n i h = tt

    at-tail : (g : Names Ty) (gs : Gens) (t : Opened) → at_first_open gs ≡ Some t →
        OfSome (at_first_open gs) (λ t. PlaceNames u s (names_behind t.before g) t.after) → PlaceNames u s (names_behind t.before g) t.after
    at-tail g gs t q n = subst (λ o. OfSome o (λ t. PlaceNames u s (names_behind t.before g) t.after)) q n

    pub place-order : (g : Names Ty) (e : Ex) → NamesInPlace u s g e → GivenIn u e → Ordered u e → AnsweredFor u e (kept_behind s g e)
    place-order g (comp_ex e gs) n i h = behind-order u s g e gs
        (λ t q k. tail-order (names_behind t.before g) e t.after (at-tail g gs t q n) (given-tail t q) k) h
      where
        given-tail : (t : Opened) → at_first_open gs ≡ Some t → GivenIn u (comp_ex e t.after)
        given-tail t q = (i.0, (subst (OpenedHas (given u)) q (opened-has (given u) gs i.1)).1)
    place-order g _ n i h = tt
