-- What views and selections offer, for what is given and for what is fixed.
use Rattle.std.proofs.Common.{◌≡◌, refl, subst, Bool, true, false, ◌||◌, not, List, [], ◌∷◌}
use Rattle.std.specs.List.{list_all}
use Rattle.ess_semantics.specs.Values.{Text}
use Rattle.ess_semantics.specs.Names.{Names}
use Rattle.ess_semantics.specs.Trees.{Pats, no_pats, more_pats, Ex}
use Rattle.ess_semantics.specs.Types.{Ty}
use Rattle.ess_semantics.proofs.Tests.{and-left, and-right, and-both}
use Rattle.ess_rules_laws.specs.Listings.{Alternative}
use Rattle.ess_rules_laws.specs.ListedSources.{laid_out}
use Rattle.ess_kind_rules_laws.specs.ViewListings.{dom_seen, dummy_of_members, view_listing}
use Rattle.ess_kind_rules_laws.specs.TermLookups.{looked_up}
use Rattle.ess_given_laws.specs.Given.{all_bound, all_bound_by, is_fixed, given, GivenIn}
use Rattle.ess_given_laws.proofs.FixedTrees.{fixed, fixed-has, has-fixed, given-has}
use Rattle.ess_given_laws.proofs.PartsOfFolds.{HaveAll, HaveSome}
use Rattle.ess_given_order_laws.specs.InOrder.{Ordered}
use Rattle.ess_given_order_laws.proofs.OrderOfListings.{AllAlternatives, SomeAlternatives}
use Rattle.ess_given_offers_laws.specs.Seen.{Counts, EachBinds, Sees, EachOver, OverAny, EachAny, OverView, AlternativeHas}
use Rattle.ess_given_offers_laws.specs.GivenOffers.{NoneIn, EachGiven, EachFixed, EachOrdered, GivenOffers}
use Rattle.ess_given_offers_laws.proofs.SeenParts.{seen-dummy}
use Rattle.ess_given_offers_laws.proofs.PartsOfViews.{view-has}
use Rattle.ess_given_offers_laws.proofs.PartsOfLookups.{picked-has}
use Rattle.ess_given_offers_laws.proofs.FixedOrder.{fixed-order}
use Rattle.ess_given_offers_laws.proofs.OrderOfViews.{OrderedAlternative, view-order}
use Rattle.ess_given_offers_laws.proofs.OrderOfLookups.{picked-order}

module _ (u : Text → Bool) where
  -- ---- what is wanted

  -- For what is given.
  pub sees-given : Counts u → Sees (given u) u
  sees-given c = record {
    counts = c;
    into = λ d h. h;
    out = λ d h. h;
    fixed = λ e h. given-has u e (fixed-has u e h);
    tuple = λ ps h. refl;
  }

  bound-by : (ps : Pats) → EachBinds (fixed u) ps → all_bound_by u ps ≡ true
  bound-by no_pats h = refl
  bound-by (more_pats p ps) h = and-both (all_bound u p) (all_bound_by u ps) h.0 (bound-by ps h.1)

  -- For what is fixed.
  pub sees-fixed : Counts u → Sees (fixed u) u
  sees-fixed c = record {
    counts = c;
    into = λ d h. h;
    out = λ d h. h;
    fixed = λ e h. fixed-has u e h;
    tuple = bound-by;
  }

  -- ---- names

  none-of : (b c : Bool) → b ≡ false → not b || c ≡ true
  none-of true c h = cc
  none-of false c h = refl

  -- A name that isn't of u, over any source and any domain.
  pub given-any : (x : Text) → u x ≡ false → OverAny (given u) x
  given-any x h = ((refl, refl), λ k. none-of (u x) (is_fixed u k) h)

  -- The same of several names.
  pub given-anys : (zs : List Text) → NoneIn u zs → EachAny (given u) zs
  given-anys [] h = tt
  given-anys (z ∷ zs) h = (given-any z h.0, given-anys zs h.1)

  -- Any names over domains.
  pub given-overs : (zs : List Text) → EachOver (given u) zs
  given-overs [] = tt
  given-overs (z ∷ zs) = ((refl, refl), given-overs zs)

  -- Names of u, where everything is fixed.
  pub fixed-any : (x : Text) → u x ≡ true → OverAny (fixed u) x
  fixed-any x h = ((h, h), λ k. h)

  -- The same of several names.
  pub fixed-anys : (zs : List Text) → list_all u zs ≡ true → EachAny (fixed u) zs
  fixed-anys [] h = tt
  fixed-anys (z ∷ zs) h = (fixed-any z (and-left (u z) (list_all u zs) h), fixed-anys zs (and-right (u z) (list_all u zs) h))

  -- Several names of u over domains.
  pub fixed-overs : (zs : List Text) → list_all u zs ≡ true → EachOver (fixed u) zs
  fixed-overs [] h = tt
  fixed-overs (z ∷ zs) h =
      let k = and-left (u z) (list_all u zs) h in ((k, k), fixed-overs zs (and-right (u z) (list_all u zs) h))

  -- The name of a listing.
  pub given-view : (x : Text) → u x ≡ false → (v : Ex) → OverView (given u) x v
  given-view x h v = record { name = refl; binds = λ q. refl; draws = λ c q. none-of (u x) (is_fixed u c) h }

  -- The same where the view is fixed.
  pub fixed-view : (x : Text) → u x ≡ true → (v : Ex) → OverView (fixed u) x v
  fixed-view x h v = record { name = h; binds = λ q. h; draws = λ c q. h }

  -- ---- what is offered

  -- The listing of a view has what is given.
  pub view-given : Counts u → (x y : Text) (zs : List Text) (v : Ex) → u x ≡ false → GivenIn u v →
      AlternativeHas (given u) (view_listing x y zs v)
  view-given c x y zs v n h =
      view-has u (given u) (sees-given c) x y zs (refl, refl) (given-overs zs) v (given-view x n v) h

  -- That of a fixed view is fixed.
  pub view-fixed : Counts u → (x y : Text) (zs : List Text) (v : Ex) → u x ≡ true → u y ≡ true → list_all u zs ≡ true →
      is_fixed u v ≡ true → AlternativeHas (fixed u) (view_listing x y zs v)
  view-fixed c x y zs v n m k h =
      view-has u (fixed u) (sees-fixed c) x y zs (m, m) (fixed-overs zs k) v (fixed-view x n v) (fixed-has u v h)

  -- That of a view in order is in order.
  pub view-in-order : Counts u → (x y : Text) (zs : List Text) (v : Ex) → GivenIn u v → Ordered u v →
      OrderedAlternative u (view_listing x y zs v)
  view-in-order c x y zs v i h = view-order u x y zs v
      (fixed-order u (dummy_of_members (dom_seen v)) (seen-dummy u (given u) (sees-given c) v i)) h

  -- What is picked has what is given.
  pub picks-given : Counts u → (g : Names Ty) (x : Text) (zs : List Text) (e : Ex) → NoneIn u (x ∷ zs) → GivenIn u e →
      HaveSome (given u) (looked_up g x zs e)
  picks-given c g x zs e n h =
      picked-has (given u) u (sees-given c) g x zs (given-any x n.0) (given-anys zs n.1) e h

  -- Out of what is fixed it is fixed.
  pub picks-fixed : Counts u → (g : Names Ty) (x : Text) (zs : List Text) (e : Ex) → list_all u (x ∷ zs) ≡ true → is_fixed u e ≡ true →
      HaveSome (fixed u) (looked_up g x zs e)
  picks-fixed c g x zs e n h = picked-has (fixed u) u (sees-fixed c) g x zs (fixed-any x (and-left (u x) (list_all u zs) n))
      (fixed-anys zs (and-right (u x) (list_all u zs) n)) e (fixed-has u e h)

  -- ---- alternatives

  each-given : (l : List Alternative) → HaveAll (given u) l → EachGiven u l
  each-given [] h = tt
  each-given (a ∷ l) h = (h.0, each-given l h.1)

  each-fixed : (l : List Alternative) → HaveAll (fixed u) l → EachFixed u l
  each-fixed [] h = tt
  each-fixed (a ∷ l) h = (has-fixed u (laid_out a) h.0, each-fixed l h.1)

  each-ordered : (l : List Alternative) → AllAlternatives u l → EachOrdered u l
  each-ordered [] h = tt
  each-ordered (a ∷ l) h = (h.0, each-ordered l h.1)

-- What is proved of offers.
pub given-offers : GivenOffers
given-offers = record {
  of_views = λ u x y zs v a q c n h. subst (AlternativeHas (given u)) q (view-given u c x y zs v n h);
  of_fixed_views = λ u x y zs v a q c n h. let m = and-right (u x) (list_all u (y ∷ zs)) n in
      has-fixed u (laid_out a) (subst (AlternativeHas (fixed u)) q (view-fixed u c x y zs v (and-left (u x) (list_all u (y ∷ zs)) n)
      (and-left (u y) (list_all u zs) m) (and-right (u y) (list_all u zs) m) h));
  of_views_in_order = λ u x y zs v a q c i h. subst (OrderedAlternative u) q (view-in-order u c x y zs v i h);
  of_picks = λ u g x zs e l q c n h. each-given u l (subst (HaveSome (given u)) q (picks-given u c g x zs e n h));
  of_fixed_picks = λ u g x zs e l q c n h. each-fixed u l (subst (HaveSome (fixed u)) q (picks-fixed u c g x zs e n h));
  of_picks_in_order = λ u g x zs e l q h. each-ordered u l (subst (SomeAlternatives u) q (picked-order u g x zs e h));
}
