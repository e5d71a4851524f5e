-- What views and selections offer is given where they are, it is fixed where they are fixed, and it is in order where they are.
use Rattle.std.specs.Prelude.{◌≡◌, Bool, true, false, List, [], ◌∷◌, Some}
use Rattle.std.specs.List.{list_all}
use Rattle.ess_semantics.specs.Values.{Text}
use Rattle.ess_semantics.specs.Names.{Names}
use Rattle.ess_semantics.specs.Trees.{Ex}
use Rattle.ess_semantics.specs.Types.{Ty}
use Rattle.ess_rules_laws.specs.Listings.{Alternative}
use Rattle.ess_rules_laws.specs.ListedSources.{laid_out}
use Rattle.ess_kind_rules_laws.specs.ViewListings.{view_listing}
use Rattle.ess_kind_rules_laws.specs.TermLookups.{looked_up}
use Rattle.ess_given_laws.specs.Given.{is_fixed, GivenIn}
use Rattle.ess_given_order_laws.specs.InOrder.{Ordered}
use Rattle.ess_given_offers_laws.specs.Seen.{Counts}

module _ (u : Text → Bool) where
  -- None of the names is one of u.
  abbrev pub NoneIn : List Text → Type 0
  NoneIn [] = Unit {0}
  NoneIn (z ∷ zs) = (u z ≡ false) × NoneIn zs

  -- What is given in each of the alternatives is given.
  abbrev pub EachGiven : List Alternative → Type 0
  EachGiven [] = Unit {0}
  EachGiven (a ∷ l) = GivenIn u (laid_out a) × EachGiven l

  -- Each of them is fixed.
  abbrev pub EachFixed : List Alternative → Type 0
  EachFixed [] = Unit {0}
  EachFixed (a ∷ l) = (is_fixed u (laid_out a) ≡ true) × EachFixed l

  -- Each of them has its comprehensions in order.
  abbrev pub EachOrdered : List Alternative → Type 0
  EachOrdered [] = Unit {0}
  EachOrdered (a ∷ l) = Ordered u (laid_out a) × EachOrdered l

-- The listing of a view and what a selection picks: the new names that are bound over sources aren't names of u, where the term is given;
-- all new names are, where it is fixed.
pub record GivenOffers : Type 0 where
  pub of_views : (u : Text → Bool) (x y : Text) (zs : List Text) (v : Ex) (a : Alternative) → view_listing x y zs v ≡ Some a → Counts u →
      u x ≡ false → GivenIn u v → GivenIn u (laid_out a)
  pub of_fixed_views : (u : Text → Bool) (x y : Text) (zs : List Text) (v : Ex) (a : Alternative) → view_listing x y zs v ≡ Some a →
      Counts u → list_all u (x ∷ y ∷ zs) ≡ true → is_fixed u v ≡ true → is_fixed u (laid_out a) ≡ true
  pub of_views_in_order : (u : Text → Bool) (x y : Text) (zs : List Text) (v : Ex) (a : Alternative) → view_listing x y zs v ≡ Some a →
      Counts u → GivenIn u v → Ordered u v → Ordered u (laid_out a)
  pub of_picks : (u : Text → Bool) (g : Names Ty) (x : Text) (zs : List Text) (e : Ex) (l : List Alternative) →
      looked_up g x zs e ≡ Some l → Counts u → NoneIn u (x ∷ zs) → GivenIn u e → EachGiven u l
  pub of_fixed_picks : (u : Text → Bool) (g : Names Ty) (x : Text) (zs : List Text) (e : Ex) (l : List Alternative) →
      looked_up g x zs e ≡ Some l → Counts u → list_all u (x ∷ zs) ≡ true → is_fixed u e ≡ true → EachFixed u l
  pub of_picks_in_order : (u : Text → Bool) (g : Names Ty) (x : Text) (zs : List Text) (e : Ex) (l : List Alternative) →
      looked_up g x zs e ≡ Some l → Ordered u e → EachOrdered u l
