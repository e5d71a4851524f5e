-- Each rule of openings keeps comprehensions in order where order counts.
use Rattle.std.proofs.Common.{◌≡◌, refl, ap, ◌∙◌, subst, Bool, true, false, ◌||◌, not, if◌then◌else◌, List, [], ◌∷◌, Option, Some, None, option_map}
use Rattle.std.specs.Prelude.{is_some}
use Rattle.ess_semantics.specs.Lists.{or_else}
use Rattle.ess_semantics.specs.Values.{Text}
use Rattle.ess_semantics.specs.Names.{Names}
use Rattle.ess_semantics.specs.NamesAt.{names_behind}
use Rattle.ess_semantics.specs.Trees.{word, name_pat, tuple_pat, Ex, comp_ex, fun1, Gens, no_gens, over, from, cond}
use Rattle.ess_semantics.specs.Types.{Ty}
use Rattle.ess_semantics.specs.ExpressionJudgements.{forgets_order}
use Rattle.ess_rules_laws.specs.Listings.{Alternative}
use Rattle.ess_rules_laws.specs.AlternativeLookups.{members_of_each}
use Rattle.ess_refine_laws.specs.AllRules.{Supply, OfSome, offered}
use Rattle.ess_kind_rules_laws.specs.ViewListings.{view_listing}
use Rattle.ess_kind_rules_laws.specs.TermLookups.{picks, looked_up}
use Rattle.ess_open_rules_laws.specs.OpenGenerators.{Opened, at_first_open}
use Rattle.ess_open_rules_laws.specs.OpenSources.{picked_members, told_by_kind, all_offered}
use Rattle.ess_open_rules_laws.specs.OpenRules.{OpenRule, step_by_step, applied_relation, of_a_pick, a_pick_alone, without_repeats, without_its_indices, over_one_source, over_what_is_picked, least_over_several, set_over_several, different_by_counts, in_order_of_its_source, fold_of_folds, set_of_a_term, open_rewrite}
use Rattle.ess_given_laws.specs.PartsHave.{GensHave}
use Rattle.ess_given_laws.specs.Given.{is_fixed, given, GivenIn}
use Rattle.ess_given_laws.proofs.FixedTrees.{fixed, fixed-has, has-fixed}
use Rattle.ess_given_laws.proofs.PartsOfFolds.{Answers, HaveAll, HaveSome}
use Rattle.ess_given_order_laws.specs.InOrder.{Ordered, GensOrdered}
use Rattle.ess_given_order_laws.proofs.OrderOfListings.{of-word, AllAlternatives, SomeAlternatives, offered-order}
use Rattle.ess_given_order_laws.proofs.OrderOfFolds.{Answered, AnsweredFor, PutsAll, PutsSome}
use Rattle.ess_given_offers_laws.specs.Seen.{Counts}
use Rattle.ess_given_offers_laws.proofs.GivenOffers.{view-in-order}
use Rattle.ess_given_offers_laws.proofs.OrderOfViews.{OrderedAlternative}
use Rattle.ess_given_offers_laws.proofs.OrderOfLookups.{picked-order}
use Rattle.ess_given_offers_laws.proofs.OrderOfPicks.{members-each}
use Rattle.ess_given_opened_laws.specs.OpenedStays.{EachAs, AllAs, SourceNames, OpenedNames, PickedNames, NewOpened, OpenedStays}
use Rattle.ess_given_opened_laws.proofs.PartsOfOpenings.{OpenedHas, opened-has}
use Rattle.ess_given_opened_laws.proofs.OrderOfOpenings.{OpenedOrder, opened-order, OrderAfter, OrderBehind, OrdersAt, PicksOrder, one-opened-order, least-order, set-order, each-picked-order, counted-order, set-of-term-order, nested-order, loosely-order, plainly-order}
use Rattle.ess_given_opened_laws.proofs.OrderOfPicks.{steps-order, related-order, pick-order, pick-alone-order}
use Rattle.ess_given_opened_laws.proofs.SourcesGiven.{drawn, picked-fixed, all-fixed-offers}
use Rattle.ess_given_opened_laws.proofs.PlaceOrder.{place-order}
use Rattle.ess_given_opened_laws.proofs.OpenedStays.{given-answers, fixed-answers}

module _ (u : Text → Bool) where
  -- ---- terms that are put in

  puts-all : (y : Text) (o : Option (List Alternative)) → SomeAlternatives u o → (u y ≡ true → HaveSome (fixed u) o) → PutsSome u y o
  puts-all y None h k = tt
  puts-all y (Some l) h k = go l h k
    where
      go : (l : List Alternative) → AllAlternatives u l → (u y ≡ true → HaveAll (fixed u) l) → PutsAll u y l
      go [] h k = tt
      go (a ∷ l) h k = (record { kept = h.0.0; fixed = λ q. has-fixed u a.item (k q).0.0 }, go l h.1 (λ q. (k q).1))

  or-true : (b : Bool) → b || true ≡ true
  or-true true = refl
  or-true false = refl

  loosened : (e : Ex) (o : Option Ex) → Answered u o → AnsweredFor u e o
  loosened e None h = tt
  loosened e (Some f) h = (λ q. h.0, h.1)

  module _ (c : Counts u) (s : Supply) (g : Names Ty) where
    -- ---- what sources offer

    pub picked-members-order : (t : Ex) → Ordered u t → SomeAlternatives u (picked_members s g t)
    picked-members-order t h = go (picks t) (looked_up g s.third s.parts t) (picked-order u g s.third s.parts t h)
      where
        go : (b : Bool) (r : Option (List Alternative)) → SomeAlternatives u r →
            SomeAlternatives u (if b then option_map (members_of_each s.one s.other) r else None)
        go true None j = tt
        go true (Some l) j = members-each u s.one s.other l j
        go false r j = tt

    kind-order : (t : Ex) → GivenIn u t → Ordered u t → SomeAlternatives u (told_by_kind s g t)
    kind-order t i h = go (view_listing s.one s.other s.parts t) (view-in-order u c s.one s.other s.parts t i h)
      where
        go : (r : Option Alternative) → OrderedAlternative u r →
            SomeAlternatives u (or_else (option_map (λ a. a ∷ []) r) (picked_members s g t))
        go None j = picked-members-order t h
        go (Some a) j = (j, tt)

    offers-order : (t : Ex) → (is_some (offered s g t) ≡ true → u s.third ≡ true) → GivenIn u t → Ordered u t →
        SomeAlternatives u (all_offered s g t)
    offers-order t k i h = go (offered s g t) refl
      where
        of-form : u s.third ≡ true → SomeAlternatives u (offered s g t)
        of-form q = offered-order u s (λ a. record { kept = (refl, tt); fixed = λ z. q }) g t h

        go : (r : Option (List Alternative)) → offered s g t ≡ r → SomeAlternatives u (or_else r (told_by_kind s g t))
        go None q = kind-order t i h
        go (Some l) q = subst (SomeAlternatives u) q (of-form (k (ap is_some q)))

    -- Of the source of a generator.
    at-source : (y : Text) (t : Ex) (hs : Gens) → SourceNames u s g (from (name_pat y) t hs) → not (u y) || is_fixed u t ≡ true →
        GivenIn u t → Ordered u t → SomeAlternatives u (all_offered s g t) × PutsSome u y (all_offered s g t)
    at-source y t hs n d i h = let o = offers-order t third i h in (o, puts-all y (all_offered s g t) o fixed-so)
      where
        third : is_some (offered s g t) ≡ true → u s.third ≡ true
        third q = n.1 ∙ ap (λ b. is_fixed u t || b) q ∙ or-true (is_fixed u t)

        fixed-so : u y ≡ true → HaveSome (fixed u) (all_offered s g t)
        fixed-so z = let q = drawn u (u y) (is_fixed u t) d z in let k = subst (λ b. EachAs u b (s.one ∷ s.other ∷ s.parts)) q n.0 in
            all-fixed-offers u c s g (k.0, (k.1.0, (n.1 ∙ ap (λ b. b || is_some (offered s g t)) q, k.1.1))) t (fixed-has u t q)

  module _ (c : Counts u) (s : Supply) where
    after-order : (g : Names Ty) (hs : Gens) → SourceNames u s g hs → GensHave (given u) hs → GensOrdered u hs → OrderAfter u s g hs
    after-order g (from (name_pat y) t hs) n i h = at-source c s g y t hs n i.0 i.1 h.0
    after-order g (from (tuple_pat ps) t hs) n i h = tt
    after-order g no_gens n i h = tt
    after-order g (over p d hs) n i h = tt
    after-order g (cond x hs) n i h = tt

  module _ (c : Counts u) (s : Supply) (g : Names Ty) where
    opens-order : (e : Ex) → OpenedNames u s g e → GivenIn u e → Ordered u e → OrdersAt u s g e
    opens-order (fun1 m f (comp_ex e gs)) n i h = go (at_first_open gs) n (opened-has (given u) gs i.0.1)
        (opened-order u gs (of-word u (forgets_order (word f)) (comp_ex e gs) h).1)
      where
        go : (o : Option Opened) → OfSome o (λ t. SourceNames u s (names_behind t.before g) t.after) → OpenedHas (given u) o →
            OpenedOrder u o → OrderBehind u s g o
        go None n k j = tt
        go (Some t) n k j = after-order c s (names_behind t.before g) t.after n k.1 j.1
    opens-order _ n i h = tt

    first-picks-order : (e : Ex) → PickedNames u s e → GivenIn u e → Ordered u e → PicksOrder u s g e
    first-picks-order (fun1 m f (comp_ex e (from (name_pat y) t hs))) n i h =
        let k = of-word u (forgets_order (word f)) (comp_ex e (from (name_pat y) t hs)) h in
        let o = picked-members-order c s g t k.1.0 in (
          o,
          puts-all y (picked_members s g t) o
              (λ z. let q = drawn u (u y) (is_fixed u t) i.0.1.0 z in
              picked-fixed u c s g (subst (λ b. AllAs u b s) q n) t (fixed-has u t q)),
        )
    first-picks-order _ n i h = tt

    -- ---- each rule

    pub order-answers : (r : OpenRule) (e : Ex) → NewOpened u s g r e → GivenIn u e → Ordered u e → AnsweredFor u e (open_rewrite s g r e)
    order-answers step_by_step e n i h = loosened e (open_rewrite s g step_by_step e) (steps-order u e h)
    order-answers applied_relation e n i h = loosened e (open_rewrite s g applied_relation e) (related-order u g e h)
    order-answers of_a_pick e n i h = loosened e (open_rewrite s g of_a_pick e) (pick-order u s g e h)
    order-answers a_pick_alone e n i h = loosened e (open_rewrite s g a_pick_alone e) (pick-alone-order u s g e h)
    order-answers without_repeats e n i h = loosened e (open_rewrite s g without_repeats e) (loosely-order u e h)
    order-answers without_its_indices e n i h = loosened e (open_rewrite s g without_its_indices e) (plainly-order u e h)
    order-answers over_one_source e n i h =
        loosened e (open_rewrite s g over_one_source e) (one-opened-order u s g e (opens-order e n i h) h)
    order-answers over_what_is_picked e n i h =
        loosened e (open_rewrite s g over_what_is_picked e) (each-picked-order u s g e (first-picks-order e n i h) h)
    order-answers least_over_several e n i h =
        loosened e (open_rewrite s g least_over_several e) (least-order u s g e (opens-order e n i h) h)
    order-answers set_over_several e n i h =
        loosened e (open_rewrite s g set_over_several e) (set-order u s g e (opens-order e n i h) h)
    order-answers different_by_counts e n i h = loosened e (open_rewrite s g different_by_counts e) (counted-order u s g e h)
    order-answers in_order_of_its_source e n i h = place-order u c s g e n i h
    order-answers fold_of_folds e n i h = loosened e (open_rewrite s g fold_of_folds e) (nested-order u e h)
    order-answers set_of_a_term e n i h = loosened e (open_rewrite s g set_of_a_term e) (set-of-term-order u s e h)

-- What stays by rules of openings.
pub opened-stays : OpenedStays
opened-stays = record {
  given = λ u s g r e f q c n h. subst (Answers (given u)) q (given-answers u c s g r e n h);
  fixed = λ u s g r e f q c n h. has-fixed u f (subst (Answers (fixed u)) q (fixed-answers u c s g r e n (fixed-has u e h)));
  ordered = λ u s g r e f q c n i h. (subst (AnsweredFor u e) q (order-answers u c s g r e n i h)).1;
  in_its_place = λ u s g r e f q c n i h. (subst (AnsweredFor u e) q (order-answers u c s g r e n i h)).0;
}
