-- Rules that read the kind of a view keep what is given, what is fixed, and comprehensions in order.
use Rattle.std.proofs.Common.{◌≡◌, refl, ap, subst, ◌∙◌, Bool, true, false, ◌||◌, [], ◌∷◌, Option, Some, None}
use Rattle.std.specs.List.{list_all}
use Rattle.ess_semantics.specs.Values.{Text}
use Rattle.ess_semantics.specs.Names.{Names}
use Rattle.ess_semantics.specs.Trees.{word, name_pat, Ex, comp_ex, fun1, from}
use Rattle.ess_semantics.specs.Types.{Ty}
use Rattle.ess_semantics.specs.ExpressionJudgements.{forgets_order}
use Rattle.ess_semantics.specs.Substitution.{for_name}
use Rattle.ess_semantics.proofs.Tests.{and-left, and-right}
use Rattle.ess_rules_laws.specs.Listings.{Alternative}
use Rattle.ess_refine_laws.specs.AllRules.{Supply}
use Rattle.ess_kind_rules_laws.specs.ViewListings.{view_listing}
use Rattle.ess_kind_rules_laws.specs.KindRules.{KindRule, over_a_view, of_one_view, member_of_a_multiset, member_of_a_part, size_of_a_multiset, frequency_by_cells, lie_together, truth_behind_a_flag, of_what_is_picked, picked, kind_rewrite}
use Rattle.ess_given_laws.specs.Given.{none_bound, is_fixed, given, GivenIn}
use Rattle.ess_given_laws.specs.GivenStays.{draws_fixed}
use Rattle.ess_given_laws.specs.PartsHave.{PartsHave}
use Rattle.ess_given_laws.proofs.PartsHave.{Puts}
use Rattle.ess_given_laws.proofs.FixedTrees.{fixed, put-fixed, put-fixed-dom, fixed-has, has-fixed, given-has}
use Rattle.ess_given_laws.proofs.PartsOfFolds.{Answers}
use Rattle.ess_given_order_laws.specs.InOrder.{Ordered}
use Rattle.ess_given_order_laws.proofs.OrderedParts.{at-name}
use Rattle.ess_given_order_laws.proofs.OrderOfFolds.{drawn, Answered}
use Rattle.ess_given_order_laws.proofs.OrderOfListings.{of-word}
use Rattle.ess_given_offers_laws.specs.Seen.{Counts, AlternativeHas}
use Rattle.ess_given_offers_laws.specs.GivenOffers.{NoneIn}
use Rattle.ess_given_offers_laws.proofs.OrderOfViews.{OrderedAlternative}
use Rattle.ess_given_offers_laws.proofs.GivenOffers.{sees-given, sees-fixed, given-any, given-anys, fixed-any, fixed-anys, view-given, view-fixed, view-in-order}
use Rattle.ess_given_kinds_laws.specs.GivenKinds.{new_names, NewOfKinds, KindsKeepGiven}
use Rattle.ess_given_kinds_laws.proofs.PartsOfKinds.{PutsItem, OffersView, PickNames, NamesFor, each-kind}
use Rattle.ess_given_kinds_laws.proofs.OrderOfKinds.{PutsInOrder, OffersInOrder, OffersFor, kind-order}

module _ (u : Text → Bool) (c : Counts u) where
  -- ---- terms that are put in

  or-so : (b c d : Bool) → (c ≡ true → d ≡ true) → b || c ≡ true → b || d ≡ true
  or-so true c d f h = refl
  or-so false c d f h = f h

  or-yes : (b c : Bool) → c ≡ true → b || c ≡ true
  or-yes true c h = refl
  or-yes false c h = h

  -- A fixed term, for any name.
  puts-fixed : (y : Text) (t : Ex) → PartsHave (fixed u) t → Puts (fixed u) y t
  puts-fixed y t h = record {
    item = h;
    in_dom = λ d q. put-fixed-dom u (for_name y t) (at-name u y t (λ b. has-fixed u t h)) d q;
    in_source = λ p k q. q;
  }

  -- Any term, for a name that isn't of u.
  puts-given : (y : Text) (t : Ex) → (u y ≡ true → is_fixed u t ≡ true) → GivenIn u t → Puts (given u) y t
  puts-given y t k h = record {
    item = h;
    in_dom = λ d q. put-fixed-dom u (for_name y t) (at-name u y t k) d q;
    in_source = λ p z q. or-so (none_bound u p) (is_fixed u z) _ (put-fixed u (for_name y t) (at-name u y t k) z) q;
  }

  fixed-item : (y : Text) (o : Option Alternative) → AlternativeHas (fixed u) o → PutsItem (fixed u) y o
  fixed-item y None h = tt
  fixed-item y (Some a) h = puts-fixed y a.item h.0

  given-item : (y : Text) (o : Option Alternative) → (u y ≡ true → AlternativeHas (fixed u) o) → AlternativeHas (given u) o →
      PutsItem (given u) y o
  given-item y None k h = tt
  given-item y (Some a) k h = puts-given y a.item (λ q. has-fixed u a.item (k q).0) h.0

  ordered-item : (y : Text) (o : Option Alternative) → (u y ≡ true → AlternativeHas (fixed u) o) → OrderedAlternative u o →
      PutsInOrder u y o
  ordered-item y None k h = tt
  ordered-item y (Some a) k h = record { kept = h.0; fixed = λ q. has-fixed u a.item (k q).0 }

  module _ (s : Supply) where
    -- ---- where all new names are of u

    module _ (n : list_all u (new_names s) ≡ true) where
      one : u s.one ≡ true
      one = and-left (u s.one) (list_all u (s.other ∷ s.third ∷ s.parts)) n

      behind-one : list_all u (s.other ∷ s.third ∷ s.parts) ≡ true
      behind-one = and-right (u s.one) (list_all u (s.other ∷ s.third ∷ s.parts)) n

      other : u s.other ≡ true
      other = and-left (u s.other) (list_all u (s.third ∷ s.parts)) behind-one

      behind-other : list_all u (s.third ∷ s.parts) ≡ true
      behind-other = and-right (u s.other) (list_all u (s.third ∷ s.parts)) behind-one

      third : u s.third ≡ true
      third = and-left (u s.third) (list_all u s.parts) behind-other

      parts : list_all u s.parts ≡ true
      parts = and-right (u s.third) (list_all u s.parts) behind-other

      -- What a fixed view offers.
      listed : (t : Ex) → is_fixed u t ≡ true → AlternativeHas (fixed u) (view_listing s.one s.other s.parts t)
      listed t h = view-fixed u c s.one s.other s.parts t one other parts h

      picks-fixed : PickNames (fixed u) s
      picks-fixed = record {
        one = fixed-any u s.one one;
        third = fixed-any u s.third third;
        others = (fixed-any u s.other other, fixed-anys u s.parts parts);
      }

      views-fixed : (e : Ex) → PartsHave (fixed u) e → OffersView (fixed u) s e
      views-fixed (fun1 m f (comp_ex e (from (name_pat y) t hs))) h =
          let o = listed t (has-fixed u t h.0.1.1) in (o, fixed-item y (view_listing s.one s.other s.parts t) o)
      views-fixed _ h = tt

      names-fixed : (r : KindRule) (e : Ex) → PartsHave (fixed u) e → NamesFor (fixed u) s r e
      names-fixed over_a_view e h = views-fixed e h
      names-fixed of_one_view e h = views-fixed e h
      names-fixed member_of_a_multiset e h = (one, one)
      names-fixed member_of_a_part e h = (one, one)
      names-fixed size_of_a_multiset e h = (one, one)
      names-fixed frequency_by_cells e h = (one, one)
      names-fixed lie_together e h = ((one, one), fixed-any u s.other other)
      names-fixed truth_behind_a_flag e h = fixed-any u s.one one
      names-fixed of_what_is_picked e h = picks-fixed
      names-fixed picked e h = picks-fixed
      names-fixed r e h = tt

    -- ---- where the root isn't fixed

    picks-given : NoneIn u (new_names s) → PickNames (given u) s
    picks-given n = record {
      one = given-any u s.one n.0;
      third = given-any u s.third n.1.1.0;
      others = (given-any u s.other n.1.0, given-anys u s.parts n.1.1.1);
    }

    -- What the first source offers: its name tells whether it is fixed.
    views-given : (b : Bool) (e : Ex) → b ≡ false → (b || draws_fixed u e ≡ true → list_all u (new_names s) ≡ true) →
        (b || draws_fixed u e ≡ false → NoneIn u (s.one ∷ [])) → GivenIn u e → OffersView (given u) s e
    views-given b (fun1 m f (comp_ex e (from (name_pat y) t hs))) q n k h = go (u y) refl
      where
        yes : u y ≡ true → AlternativeHas (fixed u) (view_listing s.one s.other s.parts t)
        yes r = listed (n (or-yes b (u y) r)) t (drawn (u y) (is_fixed u t) h.0.1.0 r)

        loose : (o : Option Alternative) → AlternativeHas (fixed u) o → AlternativeHas (given u) o
        loose None j = tt
        loose (Some a) j = given-has u (comp_ex a.item a.gens) j

        no : u y ≡ false → b || u y ≡ false
        no r = ap (λ z. z || u y) q ∙ r

        with-item : AlternativeHas (given u) (view_listing s.one s.other s.parts t) →
            AlternativeHas (given u) (view_listing s.one s.other s.parts t) × PutsItem (given u) y (view_listing s.one s.other s.parts t)
        with-item o = (o, given-item y (view_listing s.one s.other s.parts t) yes o)

        go : (z : Bool) → u y ≡ z →
            AlternativeHas (given u) (view_listing s.one s.other s.parts t) × PutsItem (given u) y (view_listing s.one s.other s.parts t)
        go true r = with-item (loose (view_listing s.one s.other s.parts t) (yes r))
        go false r = with-item (view-given u c s.one s.other s.parts t (k (no r)).0 h.0.1.1)
    views-given b _ q n k h = tt

    names-given : (r : KindRule) (e : Ex) → NewOfKinds u s r e → is_fixed u e ≡ false → GivenIn u e → NamesFor (given u) s r e
    names-given over_a_view e n f h = views-given (is_fixed u e) e f n.fixed n.others h
    names-given of_one_view e n f h = views-given (is_fixed u e) e f n.fixed n.others h
    names-given member_of_a_multiset e n f h = (refl, refl)
    names-given member_of_a_part e n f h = (refl, refl)
    names-given size_of_a_multiset e n f h = (refl, refl)
    names-given frequency_by_cells e n f h = (refl, refl)
    names-given lie_together e n f h = ((refl, refl), given-any u s.other (n.others f).0)
    names-given truth_behind_a_flag e n f h = given-any u s.one (n.others f).0
    names-given of_what_is_picked e n f h = picks-given (n.others f)
    names-given picked e n f h = picks-given (n.others f)
    names-given r e n f h = tt

    -- ---- each rule

    -- Where the root is fixed all new names are of u.
    all-new : (r : KindRule) (e : Ex) → NewOfKinds u s r e → is_fixed u e ≡ true → list_all u (new_names s) ≡ true
    all-new over_a_view e n h = n.fixed (ap (λ z. z || draws_fixed u e) h)
    all-new of_one_view e n h = n.fixed (ap (λ z. z || draws_fixed u e) h)
    all-new r e n h = n.fixed h

    -- What is fixed stays fixed.
    pub fixed-kinds : (g : Names Ty) (r : KindRule) (e : Ex) → NewOfKinds u s r e → is_fixed u e ≡ true →
        Answers (fixed u) (kind_rewrite s g r e)
    fixed-kinds g r e n h = let p = fixed-has u e h in
        each-kind u (fixed u) (sees-fixed u c) s g r e (names-fixed (all-new r e n h) r e p) p

    given-none : (o : Option Ex) → Answers (fixed u) o → Answers (given u) o
    given-none None h = tt
    given-none (Some f) h = given-has u f h

    -- What is given stays given.
    pub given-kinds : (g : Names Ty) (r : KindRule) (e : Ex) → NewOfKinds u s r e → GivenIn u e → Answers (given u) (kind_rewrite s g r e)
    given-kinds g r e n h = go (is_fixed u e) refl
      where
        go : (b : Bool) → is_fixed u e ≡ b → Answers (given u) (kind_rewrite s g r e)
        go true q = given-none (kind_rewrite s g r e) (fixed-kinds g r e n q)
        go false q = each-kind u (given u) (sees-given u c) s g r e (names-given r e n q h) h

    -- ---- order

    views-ordered : (b : Bool) (e : Ex) → (b || draws_fixed u e ≡ true → list_all u (new_names s) ≡ true) → GivenIn u e → Ordered u e →
        OffersInOrder u s e
    views-ordered b (fun1 m f (comp_ex e (from (name_pat y) t hs))) n i h =
        let k = of-word u (forgets_order (word f)) (comp_ex e (from (name_pat y) t hs)) h in
        let o = view-in-order u c s.one s.other s.parts t i.0.1.1 k.1.0 in (
          o,
          ordered-item y (view_listing s.one s.other s.parts t)
              (λ r. listed (n (or-yes b (u y) r)) t (drawn (u y) (is_fixed u t) i.0.1.0 r)) o,
        )
    views-ordered b _ n i h = tt

    offers-for : (r : KindRule) (e : Ex) → NewOfKinds u s r e → GivenIn u e → Ordered u e → OffersFor u s r e
    offers-for over_a_view e n i h = views-ordered (is_fixed u e) e n.fixed i h
    offers-for of_one_view e n i h = views-ordered (is_fixed u e) e n.fixed i h
    offers-for r e n i h = tt

    -- What is in order stays in order.
    pub ordered-kinds : (g : Names Ty) (r : KindRule) (e : Ex) → NewOfKinds u s r e → GivenIn u e → Ordered u e →
        Answered u (kind_rewrite s g r e)
    ordered-kinds g r e n i h = kind-order u s g c r e (offers-for r e n i h) i h

-- What is proved of rules of kinds.
pub kinds-keep-given : KindsKeepGiven
kinds-keep-given = record {
  by_each_rule = λ u s g r e f q c n h. subst (λ z. Answers (given u) z) q (given-kinds u c s g r e n h);
  of_fixed_trees = λ u s g r e f q c n h. has-fixed u f (subst (λ z. Answers (fixed u) z) q (fixed-kinds u c s g r e n h));
  keeps_order = λ u s g r e f q c n i h. (subst (λ z. Answered u z) q (ordered-kinds u c s g r e n i h)).1;
  in_its_place = λ u s g r e f q c n i h. (subst (λ z. Answered u z) q (ordered-kinds u c s g r e n i h)).0;
}
