-- The names that a rule of comprehensions whose items have an order takes are as its parts ask: for what is given, for what is fixed, and
-- where order counts.
use Rattle.std.proofs.Common.{◌≡◌, refl, Bool, true, false, List, [], ◌∷◌, Option, Some, None}
use Rattle.std.specs.List.{list_all}
use Rattle.ess_semantics.specs.Values.{Text}
use Rattle.ess_semantics.specs.Trees.{Ex, name_ex}
use Rattle.ess_semantics.proofs.Tests.{and-left, and-right}
use Rattle.ess_kind_rules_laws.specs.TermLookups.{picked_within}
use Rattle.ess_given_laws.specs.Given.{is_fixed, given}
use Rattle.ess_given_laws.proofs.FixedTrees.{fixed}
use Rattle.ess_given_offers_laws.proofs.GivenOffers.{given-any, fixed-any}
use Rattle.ess_given_opened_laws.proofs.SourcesGiven.{puts-fixed, puts-given}
use Rattle.ess_given_ordered_laws.specs.OrderedNames.{OfEither, NamesAlong}
use Rattle.ess_given_ordered_laws.proofs.PartsOfItems.{EachRenames, RenamesAlong}
use Rattle.ess_given_ordered_laws.proofs.OrderOfItems.{BehindAlong}

module _ (u : Text → Bool) where
  fixed-renames : (xs : List Text) → list_all u xs ≡ true → EachRenames (fixed u) xs
  fixed-renames [] h = tt
  fixed-renames (x ∷ xs) h = let k = and-left (u x) (list_all u xs) h in
      (record { over = (k, k); puts = λ y. puts-fixed u y (name_ex x) k }, fixed-renames xs (and-right (u x) (list_all u xs) h))

  given-renames : (xs : List Text) → list_all u xs ≡ true → EachRenames (given u) xs
  given-renames [] h = tt
  given-renames (x ∷ xs) h = let k = and-left (u x) (list_all u xs) h in (
    record { over = (refl, refl); puts = λ y. puts-given u y (name_ex x) (λ q. k) refl },
    given-renames xs (and-right (u x) (list_all u xs) h),
  )

  -- All belong to u.
  pub fixed-along : (ys : List Text) (e : Ex) → list_all u ys ≡ true → RenamesAlong (fixed u) ys e
  fixed-along [] e h = tt
  fixed-along (y ∷ ys) e h = (fixed-any u y (and-left (u y) (list_all u ys) h), go (picked_within e) (fixed-along ys))
    where
      k : list_all u ys ≡ true
      k = and-right (u y) (list_all u ys) h

      go : (o : Option Ex) → ((t : Ex) → list_all u ys ≡ true → RenamesAlong (fixed u) ys t) →
          OfEither o (EachRenames (fixed u) ys) (RenamesAlong (fixed u) ys)
      go None r = fixed-renames ys k
      go (Some t) r = r t k

  -- Those for what is picked within don't.
  pub given-along : (ys : List Text) (e : Ex) → NamesAlong u ys e → RenamesAlong (given u) ys e
  given-along [] e h = tt
  given-along (y ∷ ys) e h = (given-any u y h.0, go (picked_within e) h.1 (given-along ys))
    where
      go : (o : Option Ex) → OfEither o (list_all u ys ≡ true) (NamesAlong u ys) →
          ((t : Ex) → NamesAlong u ys t → RenamesAlong (given u) ys t) → OfEither o (EachRenames (given u) ys) (RenamesAlong (given u) ys)
      go None k r = given-renames ys k
      go (Some t) k r = r t k

  -- Those behind them do, anyway.
  pub all-behind : (ys : List Text) (e : Ex) → list_all u ys ≡ true → BehindAlong u ys e
  all-behind [] e h = tt
  all-behind (y ∷ ys) e h = go (picked_within e) (all-behind ys)
    where
      k : list_all u ys ≡ true
      k = and-right (u y) (list_all u ys) h

      go : (o : Option Ex) → ((t : Ex) → list_all u ys ≡ true → BehindAlong u ys t) → OfEither o (list_all u ys ≡ true) (BehindAlong u ys)
      go None r = k
      go (Some t) r = r t k

  pub along-behind : (ys : List Text) (e : Ex) → NamesAlong u ys e → BehindAlong u ys e
  along-behind [] e h = tt
  along-behind (y ∷ ys) e h = go (picked_within e) h.1 (along-behind ys)
    where
      go : (o : Option Ex) → OfEither o (list_all u ys ≡ true) (NamesAlong u ys) → ((t : Ex) → NamesAlong u ys t → BehindAlong u ys t) →
          OfEither o (list_all u ys ≡ true) (BehindAlong u ys)
      go None k r = k
      go (Some t) k r = r t k

  -- By whether the expression is fixed.
  pub by-fixed : (e : Ex) (P : Type 0) → (is_fixed u e ≡ true → P) → (is_fixed u e ≡ false → P) → P
  by-fixed e P k j = go (is_fixed u e) refl
    where
      go : (b : Bool) → is_fixed u e ≡ b → P
      go true q = k q
      go false q = j q
