-- Each rule of openings keeps what is given, and comprehensions in order where order counts.
use Rattle.std.proofs.Common.{◌≡◌, refl, ◌∙◌, subst, Bool, true, false, ◌&&◌, ◌||◌, ◌∷◌, Option, Some, None}
use Rattle.ess_semantics.specs.declared.words.Fun.{Fun}
use Rattle.ess_semantics.specs.Values.{Text}
use Rattle.ess_semantics.specs.Names.{Names}
use Rattle.ess_semantics.specs.NamesAt.{names_behind}
use Rattle.ess_semantics.specs.Trees.{name_pat, tuple_pat, Pat, Ex, comp_ex, fun1, Gens, no_gens, over, from, cond}
use Rattle.ess_semantics.specs.Types.{Ty}
use Rattle.ess_refine_laws.specs.AllRules.{Supply, OfSome}
use Rattle.ess_kind_rules_laws.specs.TermLookups.{looked_up}
use Rattle.ess_open_rules_laws.specs.OpenGenerators.{Opened, at_first_open}
use Rattle.ess_open_rules_laws.specs.OpenSources.{picked_members}
use Rattle.ess_open_rules_laws.specs.OpenRules.{OpenRule, step_by_step, applied_relation, of_a_pick, a_pick_alone, without_repeats, without_its_indices, over_one_source, over_what_is_picked, least_over_several, set_over_several, different_by_counts, in_order_of_its_source, fold_of_folds, set_of_a_term, open_rewrite}
use Rattle.ess_given_laws.specs.PartsHave.{PartsHave, GensHave}
use Rattle.ess_given_laws.specs.Given.{none_bound, is_fixed, given, GivenIn}
use Rattle.ess_given_laws.proofs.FixedTrees.{fixed, fixed-has, has-fixed, given-has}
use Rattle.ess_given_laws.proofs.PartsOfFolds.{Answers, HaveSome}
use Rattle.ess_given_offers_laws.specs.Seen.{Counts}
use Rattle.ess_given_offers_laws.proofs.GivenOffers.{picks-given, picks-fixed}
use Rattle.ess_given_opened_laws.specs.OpenedStays.{AllAs, SourceNames, OpenedNames, PickedNames, NewOpened}
use Rattle.ess_given_opened_laws.proofs.PartsOfOpenings.{OpenedHas, opened-has, OffersAfter, OffersBehind, OpensAt, PicksAt, one-opened-has, least-has, set-has, each-picked-has, counted-has, set-of-term-has, nested-has, loosely-has, plainly-has}
use Rattle.ess_given_opened_laws.proofs.PartsOfPicks.{steps-have, related-has, pick-has, pick-alone-has}
use Rattle.ess_given_opened_laws.proofs.SourcesGiven.{each-in, none-in, free, fixed-puts-all, picks-at, picked-fixed, source-given, source-fixed}
use Rattle.ess_given_opened_laws.proofs.PlaceGiven.{place-given, place-fixed}

module _ (u : Text → Bool) where
  given-none : (o : Option Ex) → Answers (fixed u) o → Answers (given u) o
  given-none None h = tt
  given-none (Some f) h = given-has u f h

  -- What a set is made of is fixed where the set is.
  made-given : (p : Pat) (t : Ex) → none_bound u p || is_fixed u (fun1 false Fun.ToSet t) ≡ true → none_bound u p || is_fixed u t ≡ true
  made-given p t h = go (none_bound u p) (is_fixed u t) h
    where
      go : (b c : Bool) → b || (c && true) ≡ true → b || c ≡ true
      go true c h = refl
      go false true h = refl
      go false false h = h

  module _ (c : Counts u) (s : Supply) (g : Names Ty) where
    -- ---- names that all belong to u, or none

    looks-given : AllAs u false s → (t : Ex) → GivenIn u t → HaveSome (given u) (looked_up g s.third s.parts t)
    looks-given n t h = picks-given u c g s.third s.parts t (none-in u false (s.third ∷ s.parts) refl n.1.1) h

    looks-fixed : AllAs u true s → (t : Ex) → PartsHave (fixed u) t → HaveSome (fixed u) (looked_up g s.third s.parts t)
    looks-fixed n t h = picks-fixed u c g s.third s.parts t (each-in u true (s.third ∷ s.parts) refl n.1.1) (has-fixed u t h)

    -- By whether the root is fixed.
    by-root : (e : Ex) (o : Option Ex) → (is_fixed u e ≡ true → Answers (fixed u) o) → (is_fixed u e ≡ false → Answers (given u) o) →
        Answers (given u) o
    by-root e o k j = go (is_fixed u e) refl
      where
        go : (b : Bool) → is_fixed u e ≡ b → Answers (given u) o
        go true q = given-none o (k q)
        go false q = j q

    as-root : (e : Ex) (b : Bool) → is_fixed u e ≡ b → AllAs u (is_fixed u e) s → AllAs u b s
    as-root e b q n = subst (λ z. AllAs u z s) q n

    -- ---- sources

    after-given : (g : Names Ty) (hs : Gens) → SourceNames u s g hs → GensHave (given u) hs → OffersAfter (given u) s g hs
    after-given g (from (name_pat y) t hs) n h = source-given u c s g y t hs n h.0 h.1
    after-given g (from (tuple_pat ps) t hs) n h = tt
    after-given g no_gens n h = tt
    after-given g (over p d hs) n h = tt
    after-given g (cond x hs) n h = tt

    after-fixed : (g : Names Ty) (hs : Gens) → SourceNames u s g hs → GensHave (fixed u) hs → OffersAfter (fixed u) s g hs
    after-fixed g (from (name_pat y) t hs) n h = source-fixed u c s g y t hs n h.1
    after-fixed g (from (tuple_pat ps) t hs) n h = tt
    after-fixed g no_gens n h = tt
    after-fixed g (over p d hs) n h = tt
    after-fixed g (cond x hs) n h = tt

    opens-given : (e : Ex) → OpenedNames u s g e → GivenIn u e → OpensAt (given u) s g e
    opens-given (fun1 m f (comp_ex e gs)) n h = go (at_first_open gs) n (opened-has (given u) gs h.0.1)
      where
        go : (o : Option Opened) → OfSome o (λ t. SourceNames u s (names_behind t.before g) t.after) → OpenedHas (given u) o →
            OffersBehind (given u) s g o
        go None n k = tt
        go (Some t) n k = after-given (names_behind t.before g) t.after n k.1
    opens-given _ n h = tt

    opens-fixed : (e : Ex) → OpenedNames u s g e → PartsHave (fixed u) e → OpensAt (fixed u) s g e
    opens-fixed (fun1 m f (comp_ex e gs)) n h = go (at_first_open gs) n (opened-has (fixed u) gs h.0.1)
      where
        go : (o : Option Opened) → OfSome o (λ t. SourceNames u s (names_behind t.before g) t.after) → OpenedHas (fixed u) o →
            OffersBehind (fixed u) s g o
        go None n k = tt
        go (Some t) n k = after-fixed (names_behind t.before g) t.after n k.1
    opens-fixed _ n h = tt

    first-picks-given : (e : Ex) → PickedNames u s e → GivenIn u e → PicksAt (given u) s g e
    first-picks-given (fun1 m f (comp_ex e (from (name_pat y) t hs))) n h = picks-at u c s g y t n h.0.1.0 h.0.1.1
    first-picks-given _ n h = tt

    first-picks-fixed : (e : Ex) → PickedNames u s e → PartsHave (fixed u) e → PicksAt (fixed u) s g e
    first-picks-fixed (fun1 m f (comp_ex e (from (name_pat y) t hs))) n h =
        let o = picked-fixed u c s g (as-root t true (has-fixed u t h.0.1.1) n) t h.0.1.1 in
        (o, fixed-puts-all u y (picked_members s g t) o)
    first-picks-fixed _ n h = tt

    -- ---- each rule

    pub fixed-answers : (r : OpenRule) (e : Ex) → NewOpened u s g r e → PartsHave (fixed u) e → Answers (fixed u) (open_rewrite s g r e)
    fixed-answers step_by_step e n h = steps-have (fixed u) e h
    fixed-answers applied_relation e n h = related-has (fixed u) g e h
    fixed-answers of_a_pick e n h = let k = as-root e true (has-fixed u e h) n in
        pick-has (fixed u) s g k.0 (λ z. k.0) (looks-fixed k) e h
    fixed-answers a_pick_alone e n h = let k = as-root e true (has-fixed u e h) n in
        pick-alone-has (fixed u) s g k.0 (λ z. k.0) (looks-fixed k) e h
    fixed-answers without_repeats e n h = loosely-has (fixed u) (λ p t q. q) e h
    fixed-answers without_its_indices e n h = plainly-has (fixed u) e h
    fixed-answers over_one_source e n h = one-opened-has (fixed u) s g e (opens-fixed e n h) h
    fixed-answers over_what_is_picked e n h = each-picked-has (fixed u) s g e (first-picks-fixed e n h) h
    fixed-answers least_over_several e n h = least-has (fixed u) s g e (opens-fixed e n h) h
    fixed-answers set_over_several e n h = set-has (fixed u) s g e (opens-fixed e n h) h
    fixed-answers different_by_counts e n h = let k = n ∙ has-fixed u e h in counted-has (fixed u) s k (λ z. k) g e h
    fixed-answers in_order_of_its_source e n h = place-fixed u c s g e n h
    fixed-answers fold_of_folds e n h = nested-has (fixed u) e h
    fixed-answers set_of_a_term e n h = let k = n ∙ has-fixed u e h in set-of-term-has (fixed u) s k (λ z. k) e h

    pub given-answers : (r : OpenRule) (e : Ex) → NewOpened u s g r e → GivenIn u e → Answers (given u) (open_rewrite s g r e)
    given-answers step_by_step e n h = steps-have (given u) e h
    given-answers applied_relation e n h = related-has (given u) g e h
    given-answers of_a_pick e n h = by-root e (open_rewrite s g of_a_pick e) (λ q. fixed-answers of_a_pick e n (fixed-has u e q))
        (λ q. let k = as-root e false q n in pick-has (given u) s g refl (free u s.one k.0) (looks-given k) e h)
    given-answers a_pick_alone e n h = by-root e (open_rewrite s g a_pick_alone e)
        (λ q. fixed-answers a_pick_alone e n (fixed-has u e q))
        (λ q. let k = as-root e false q n in pick-alone-has (given u) s g refl (free u s.one k.0) (looks-given k) e h)
    given-answers without_repeats e n h = loosely-has (given u) made-given e h
    given-answers without_its_indices e n h = plainly-has (given u) e h
    given-answers over_one_source e n h = one-opened-has (given u) s g e (opens-given e n h) h
    given-answers over_what_is_picked e n h = each-picked-has (given u) s g e (first-picks-given e n h) h
    given-answers least_over_several e n h = least-has (given u) s g e (opens-given e n h) h
    given-answers set_over_several e n h = set-has (given u) s g e (opens-given e n h) h
    given-answers different_by_counts e n h = by-root e (open_rewrite s g different_by_counts e)
        (λ q. fixed-answers different_by_counts e n (fixed-has u e q))
        (λ q. counted-has (given u) s refl (free u s.one (n ∙ q)) g e h)
    given-answers in_order_of_its_source e n h = place-given u c s g e n h
    given-answers fold_of_folds e n h = nested-has (given u) e h
    given-answers set_of_a_term e n h = by-root e (open_rewrite s g set_of_a_term e)
        (λ q. fixed-answers set_of_a_term e n (fixed-has u e q))
        (λ q. set-of-term-has (given u) s refl (free u s.one (n ∙ q)) e h)
