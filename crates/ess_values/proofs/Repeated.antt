-- Whether a value stands twice in a list is told by its rising list, from neighbours.
use Rattle.std.proofs.Common.{◌≡◌, refl, sym, ap, ◌∙◌, suc, ◌≤◌, Bool, true, false, ◌||◌, ◌&&◌, not, if◌then◌else◌, List, [], ◌∷◌, map, arith}
use Rattle.std.specs.List.{list_any}
use Rattle.ess_semantics.specs.Values.{Value, itself}
use Rattle.ess_semantics.specs.Order.{same, below}
use Rattle.ess_semantics.specs.Collections.{holds, count, sorted, rises, rises_weakly, no_twice}
use Rattle.ess_semantics.proofs.Tests.{and-left, and-right, and-both, not-true, both-ways, or-left-no, or-right-no}
use Rattle.ess_semantics.proofs.Orders.{same-equal, same-itself}
use Rattle.ess_semantics.proofs.Sorting.{Distinct, sorted-of, distinct-twice, twice-distinct}
use Rattle.ess_semantics.proofs.Multisets.{count-sorted, sorted-rises, holds-count}
use Rattle.ess_semantics.proofs.Repeats.{sorted-distinct}
use Rattle.ess_values.specs.Neighbours.{neighbours_differ}
use Rattle.ess_values.proofs.Canonical.{next-below, one-turned}

-- ---- neighbours

apart-rises : (xs : List Value) → rises_weakly xs ≡ true → neighbours_differ xs ≡ true → rises itself xs ≡ true
apart-rises [] h d = refl
apart-rises (x ∷ []) h d = refl
apart-rises (x ∷ y ∷ ys) h d =
    and-both _ _
    (next-below x y (and-left (not (below y x)) (rises_weakly (y ∷ ys)) h) (one-turned x y (not-true (same x y) (and-left (not (same x y)) (neighbours_differ (y ∷ ys)) d))))
    (apart-rises (y ∷ ys) (and-right (not (below y x)) (rises_weakly (y ∷ ys)) h) (and-right (not (same x y)) (neighbours_differ (y ∷ ys)) d))

first-differs : (x y : Value) (ys : List Value) → not (list_any (λ z. same x z) (y ∷ ys)) ≡ true → not (same x y) ≡ true
first-differs x y ys e = go (same x y) e
  where
    go : (b : Bool) → not (b || list_any (λ z. same x z) ys) ≡ true → not b ≡ true
    go true e = e
    go false e = refl

twice-apart : (xs : List Value) → no_twice itself xs ≡ true → neighbours_differ xs ≡ true
twice-apart [] h = refl
twice-apart (x ∷ []) h = refl
twice-apart (x ∷ y ∷ ys) h =
    let own = and-left (not (list_any (λ z. same x z) (y ∷ ys))) (no_twice itself (y ∷ ys)) h in
    and-both _ _ (first-differs x y ys own) (twice-apart (y ∷ ys) (and-right (not (list_any (λ z. same x z) (y ∷ ys))) (no_twice itself (y ∷ ys)) h))

pub twice-neighbours : (xs : List Value) → rises_weakly xs ≡ true → no_twice itself xs ≡ neighbours_differ xs
twice-neighbours xs h =
    both-ways (no_twice itself xs) (neighbours_differ xs) (twice-apart xs)
    (λ d. distinct-twice xs (sorted-distinct xs (sorted-of xs (apart-rises xs h d))))

-- ---- sorting keeps whether a value stands twice

zero-count : (xs : List Value) (v : Value) → holds xs v ≡ false → count xs v ≡ 0
zero-count [] v h = refl
zero-count (x ∷ xs) v h = go (same x v) (or-left-no (same x v) (holds xs v) h) (zero-count xs v (or-right-no (same x v) (holds xs v) h))
  where
    go : (b : Bool) → b ≡ false → count xs v ≡ 0 → (if b then suc (count xs v) else count xs v) ≡ 0
    go true e ih = cc
    go false e ih = ih

once : (xs : List Value) → Distinct xs → (v : Value) → count xs v ≤ 1
once [] d v = omega arith
once (x ∷ xs) d v = go (same x v) refl (once xs d.1 v)
  where
    go : (b : Bool) → same x v ≡ b → count xs v ≤ 1 → (if b then suc (count xs v) else count xs v) ≤ 1
    go true e ih = let z = zero-count xs v (ap (holds xs) (sym (same-equal x v e)) ∙ d.0) in omega (arith, z)
    go false e ih = ih

distinct-once : (xs : List Value) → ((v : Value) → count xs v ≤ 1) → Distinct xs
distinct-once [] h = tt
distinct-once (x ∷ xs) h = (holds-count xs x (none (same x x) (same-itself x) (h x)), distinct-once xs (λ v. fewer (same x v) v (h v)))
  where
    none : (b : Bool) → b ≡ true → (if b then suc (count xs x) else count xs x) ≤ 1 → count xs x ≡ 0
    none true e k = omega arith
    none false e k = cc

    fewer : (b : Bool) (v : Value) → (if b then suc (count xs v) else count xs v) ≤ 1 → count xs v ≤ 1
    fewer true v k = omega arith
    fewer false v k = k

pub twice-sorted : (xs : List Value) → no_twice itself xs ≡ no_twice itself (sorted xs)
twice-sorted xs =
    both-ways (no_twice itself xs) (no_twice itself (sorted xs))
    (λ e. distinct-twice (sorted xs) (distinct-once (sorted xs) (λ v. let c = count-sorted xs v in let o = once xs (twice-distinct xs e) v in omega (arith, c, o))))
    (λ e. distinct-twice xs (distinct-once xs (λ v. let c = count-sorted xs v in let o = once (sorted xs) (twice-distinct (sorted xs) e) v in omega (arith, c, o))))

-- So neighbours of the rising list tell it.
pub neighbours-sorted : (xs : List Value) → no_twice itself xs ≡ neighbours_differ (sorted xs)
neighbours-sorted xs = twice-sorted xs ∙ twice-neighbours (sorted xs) (sorted-rises xs)

-- ---- by a part of each item

pub twice-mapped : (f : Value → Value) (xs : List Value) → no_twice f xs ≡ no_twice itself (map f xs)
twice-mapped f [] = refl
twice-mapped f (x ∷ xs) = ap (λ b. not b && no_twice f xs) (any xs) ∙ ap (λ b. not (list_any (λ y. same (f x) y) (map f xs)) && b) (twice-mapped f xs)
  where
    any : (ys : List Value) → list_any (λ y. same (f x) (f y)) ys ≡ list_any (λ y. same (f x) y) (map f ys)
    any [] = refl
    any (y ∷ ys) = ap (λ b. same (f x) (f y) || b) (any ys)
