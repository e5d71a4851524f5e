-- What is left of items that are sorted, and of which repeats are then dropped, is their canonical list. The items are
-- those of a list in memory, and f says which value each one stands for.
use Rattle.std.proofs.Common.{◌≡◌, refl, sym, ap, ◌∙◌, suc, ◌+◌, Bool, true, false, ◌||◌, not, if◌then◌else◌, cond, List, [], ◌∷◌, map, arith}
use Rattle.std.specs.Prelude.{slice_index_or}
use Rattle.std.specs.List.{sum_by, dedup, dedup_from}
use Rattle.std.specs.List.Sorted.{IsPermutation, IsSorted}
use Rattle.std.proofs.lemmas.List.Sums.{sum_by-cons}
use Rattle.std.proofs.lemmas.List.Sorted.{sum_by-IsPermutation}
use Rattle.std.specs.Ordering.{is_lt, is_eq, ordering_reverse}
use Rattle.std.specs.declared.cmp.Ordering.{Ordering}
use Rattle.std.specs.declared.cmp.Ordering.TheVariants.{Less, Equal, Greater}
use Rattle.ess_semantics.specs.Values.{Value, itself}
use Rattle.ess_semantics.specs.Order.{order, same, below}
use Rattle.ess_semantics.specs.Collections.{holds, count, sorted, sorted_once, rises, rises_weakly}
use Rattle.ess_semantics.proofs.Tests.{and-left, and-right, and-both}
use Rattle.ess_semantics.proofs.Orders.{order_total, same-equal, same-itself}
use Rattle.ess_semantics.proofs.Sorting.{one-sorted-list, one-set, sorted_once-rises, holds-sorted_once}
use Rattle.ess_semantics.proofs.Multisets.{one-sorted-bag, count-sorted, sorted-rises, same-members}

-- ---- small laws

or-idem : (a b : Bool) → a || b ≡ a || (a || b)
or-idem true b = refl
or-idem false b = refl

pub next-below : (x y : Value) → not (below y x) ≡ true → same y x ≡ false → below x y ≡ true
next-below x y p q = go (order y x) refl
  where
    go : (o : Ordering) → order y x ≡ o → below x y ≡ true
    go Less e = let z : not (is_lt Less) ≡ true = ap (λ o. not (is_lt o)) (sym e) ∙ p in cc
    go Equal e = let z : is_eq Equal ≡ false = ap is_eq (sym e) ∙ q in cc
    go Greater e = ap is_lt (order_total.antisymm x y ∙ ap ordering_reverse e)

-- values that differ differ the other way round
pub one-turned : (x y : Value) → same x y ≡ false → same y x ≡ false
one-turned x y h = go (same y x) refl
  where
    go : (b : Bool) → same y x ≡ b → same y x ≡ false
    go true e = let z : same y y ≡ false = ap (λ w. same w y) (same-equal y x e) ∙ h in let w = same-itself y in cc
    go false e = e

module _ {A : Type 0} (f : A → Value) where
  -- The order of two items.
  abbrev pub by : A → A → Ordering
  by a b = order (f a) (f b)

  -- Whether two items stand for one value.
  abbrev pub one : A → A → Bool
  one a b = same (f a) (f b)

  -- ---- a permutation has the same items equally often

  counted : (v : Value) (xs : List A) → sum_by (λ x. if same (f x) v then 1 else 0) xs ≡ count (map f xs) v
  counted v [] = refl
  counted v (x ∷ xs) = sum_by-cons _ x xs ∙ go (same (f x) v) (counted v xs)
    where
      go : (b : Bool) → sum_by (λ x. if same (f x) v then 1 else 0) xs ≡ count (map f xs) v
          → (if b then 1 else 0) + sum_by (λ x. if same (f x) v then 1 else 0) xs ≡ (if b then suc (count (map f xs) v) else count (map f xs) v)
      go true e = omega (arith, e)
      go false e = omega (arith, e)

  permuted : (xs ys : List A) → IsPermutation xs ys → (v : Value) → count (map f ys) v ≡ count (map f xs) v
  permuted xs ys p v = sym (counted v ys) ∙ sum_by-IsPermutation _ xs ys p ∙ counted v xs

  -- ---- a sorted list rises

  sorted_by-rises : (xs : List A) → IsSorted by xs → rises_weakly (map f xs) ≡ true
  sorted_by-rises [] h = refl
  sorted_by-rises (x ∷ []) h = refl
  sorted_by-rises (x ∷ y ∷ ys) h =
      and-both _ _ (ap not (h 0 x (omega arith) (omega arith)))
      (sorted_by-rises (y ∷ ys) (λ k d a b. let at : suc (k + 1) ≡ suc k + 1 = omega arith in
      ap (λ j. is_lt (by (slice_index_or (x ∷ y ∷ ys) j d) (slice_index_or (y ∷ ys) k d))) at ∙ h (suc k) d (omega arith) (omega arith)))

  pub sorted_by-sorted : (xs ys : List A) → IsPermutation xs ys → IsSorted by ys → map f ys ≡ sorted (map f xs)
  sorted_by-sorted xs ys p s =
      one-sorted-bag (map f ys) (sorted (map f xs)) (sorted_by-rises ys s) (sorted-rises (map f xs))
      (λ v. permuted xs ys p v ∙ sym (count-sorted (map f xs) v))

  -- ---- without its repeats it rises sorted_once

  -- behind an item that is below the first one
  behind : (y x : A) (xs : List A) → below (f y) (f x) ≡ true → rises itself (map f (dedup_from one x xs)) ≡ true → rises itself (f y ∷ map f (dedup_from one x xs)) ≡ true
  behind y x [] b r = and-both _ _ b r
  behind y x (z ∷ zs) b r = go (same (f z) (f x)) (λ q. behind y x zs b q) r
    where
      go : (c : Bool) → (rises itself (map f (dedup_from one x zs)) ≡ true → rises itself (f y ∷ map f (dedup_from one x zs)) ≡ true)
          → rises itself (map f (cond c (dedup_from one x zs) (x ∷ dedup_from one z zs))) ≡ true → rises itself (f y ∷ map f (cond c (dedup_from one x zs) (x ∷ dedup_from one z zs))) ≡ true
      go true ih r = ih r
      go false ih r = and-both _ _ b r

  once-rises : (y : A) (xs : List A) → rises_weakly (f y ∷ map f xs) ≡ true → rises itself (map f (dedup_from one y xs)) ≡ true
  once-rises y [] h = refl
  once-rises y (x ∷ xs) h = go (same (f x) (f y)) refl (λ e. once-rises y xs (ap (λ v. rises_weakly (v ∷ map f xs)) (sym (same-equal (f x) (f y) e)) ∙ rest)) (once-rises x xs rest)
    where
      rest : rises_weakly (f x ∷ map f xs) ≡ true
      rest = and-right (not (below (f x) (f y))) (rises_weakly (f x ∷ map f xs)) h

      go : (c : Bool) → same (f x) (f y) ≡ c → (same (f x) (f y) ≡ true → rises itself (map f (dedup_from one y xs)) ≡ true) → rises itself (map f (dedup_from one x xs)) ≡ true
          → rises itself (map f (cond c (dedup_from one y xs) (y ∷ dedup_from one x xs))) ≡ true
      go true e ih r = ih e
      go false e ih r = behind y x xs (next-below (f y) (f x) (and-left (not (below (f x) (f y))) (rises_weakly (f x ∷ map f xs)) h) e) r

  once-holds : (y : A) (xs : List A) (v : Value) → holds (map f (dedup_from one y xs)) v ≡ holds (f y ∷ map f xs) v
  once-holds y [] v = refl
  once-holds y (x ∷ xs) v = go (same (f x) (f y)) refl (once-holds y xs v) (once-holds x xs v)
    where
      go : (c : Bool) → same (f x) (f y) ≡ c → holds (map f (dedup_from one y xs)) v ≡ holds (f y ∷ map f xs) v → holds (map f (dedup_from one x xs)) v ≡ holds (f x ∷ map f xs) v
          → holds (map f (cond c (dedup_from one y xs) (y ∷ dedup_from one x xs))) v ≡ same (f y) v || (same (f x) v || holds (map f xs) v)
      go true e p q =
          p ∙ or-idem (same (f y) v) (holds (map f xs) v)
          ∙ ap (λ w. same (f y) v || (same w v || holds (map f xs) v)) (sym (same-equal (f x) (f y) e))
      go false e p q = ap (λ b. same (f y) v || b) q

  once-sorted_once : (xs : List A) → rises_weakly (map f xs) ≡ true → map f (dedup one xs) ≡ sorted_once (map f xs)
  once-sorted_once [] h = refl
  once-sorted_once (x ∷ xs) h =
      one-sorted-list (map f (dedup_from one x xs)) (sorted_once (f x ∷ map f xs)) (once-rises x xs h) (sorted_once-rises (f x ∷ map f xs))
      (λ v. once-holds x xs v ∙ sym (holds-sorted_once (f x ∷ map f xs) v))

  pub sorted_by-sorted_once : (xs ys zs : List A) → IsPermutation xs ys → IsSorted by ys → zs ≡ dedup one ys → map f zs ≡ sorted_once (map f xs)
  sorted_by-sorted_once xs ys zs p s d =
      ap (map f) d ∙ once-sorted_once ys (sorted_by-rises ys s)
      ∙ one-set (map f ys) (map f xs) (same-members (map f ys) (map f xs) (permuted xs ys p))
