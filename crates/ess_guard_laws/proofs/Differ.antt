-- Lists without repeats: a test that compares items by a part of them, and a list in rising order.
use Rattle.std.proofs.Common.{◌≡◌, refl, sym, ap, ◌∙◌, Bool, true, false, ◌||◌, not, List, [], ◌∷◌, ◌++◌}
use Rattle.std.specs.List.{list_any}
use Rattle.ess_semantics.specs.Values.{Value}
use Rattle.ess_semantics.specs.Order.{same}
use Rattle.ess_semantics.specs.Collections.{holds, sorted_once, no_twice}
use Rattle.ess_semantics.specs.Operators.{all_different}
use Rattle.ess_semantics.proofs.Orders.{order_total, same-itself, same-equal}
use Rattle.ess_semantics.proofs.Sorting.{Distinct, Rising, below-has, not-itself, sorted-of, holds-has, sorted_once-rises}
use Rattle.ess_semantics.proofs.Tests.{and-left, and-right, and-both, not-true}

-- The second of two alternatives.
pub later : (a b : Bool) → b ≡ true → a || b ≡ true
later true b e = refl
later false b e = e

-- What a list holds is its first item, or one behind it.
pub held-split : (x : Value) (xs : List Value) (v : Value) (P : Type 0) → holds (x ∷ xs) v ≡ true → (x ≡ v → P) → (holds xs v ≡ true → P) →
    P
held-split x xs v P h f g = go (same x v) refl h
  where
    go : (t : Bool) → same x v ≡ t → t || holds xs v ≡ true → P
    go true e h = f (same-equal x v e)
    go false e h = g h

-- The first item is held.
pub first-held : (x : Value) (xs : List Value) → holds (x ∷ xs) x ≡ true
first-held x xs = ap (λ b. b || holds xs x) (same-itself x)

-- The item that passes a test.
found : (g : Value → Bool) (xs : List Value) → list_any g xs ≡ true → (y : Value) × (holds xs y ≡ true) × (g y ≡ true)
found g [] e = cc
found g (x ∷ xs) e = go (g x) refl e (found g xs)
  where
    go : (t : Bool) → g x ≡ t → t || list_any g xs ≡ true → (list_any g xs ≡ true → (y : Value) × (holds xs y ≡ true) × (g y ≡ true)) →
        (y : Value) × (holds (x ∷ xs) y ≡ true) × (g y ≡ true)
    go true q e k = (x, first-held x xs, q)
    go false q e k = let r = k e in (r.0, later (same x r.0) (holds xs r.0) r.1, r.2)

-- Where items with one part are one item, a list without repeats has no part twice.
pub distinct-parts : (f : Value → Value) (xs : List Value) → Distinct xs →
    ((v w : Value) → holds xs v ≡ true → holds xs w ≡ true → same (f v) (f w) ≡ true → v ≡ w) → no_twice f xs ≡ true
distinct-parts f [] d h = refl
distinct-parts f (x ∷ xs) d h =
    and-both (not (list_any (λ y. same (f x) (f y)) xs)) (no_twice f xs) (none (list_any (λ y. same (f x) (f y)) xs) refl)
    (distinct-parts f xs d.1 (λ v w a b. h v w (later (same x v) (holds xs v) a) (later (same x w) (holds xs w) b)))
  where
    none : (t : Bool) → list_any (λ y. same (f x) (f y)) xs ≡ t → not t ≡ true
    none true e =
        let r = found (λ y. same (f x) (f y)) xs e in
        let q : x ≡ r.0 = h x r.0 (first-held x xs) (later (same x r.0) (holds xs r.0) r.1) r.2 in
        let s : true ≡ false = sym r.1 ∙ ap (holds xs) (sym q) ∙ d.0 in cc
    none false e = refl

-- A list that rises strictly has no repeats.
rising-distinct : (xs : List Value) → Rising order_total xs → Distinct xs
rising-distinct [] r = tt
rising-distinct (x ∷ xs) r = (go (holds xs x) refl, rising-distinct xs r.1)
  where
    go : (t : Bool) → holds xs x ≡ t → t ≡ false
    go true e = absurd (not-itself order_total x (below-has order_total x x xs r.0 (holds-has xs x e)))
    go false e = refl

-- So has a sorted list.
pub sorted-distinct : (xs : List Value) → Distinct (sorted_once xs)
sorted-distinct xs = rising-distinct (sorted_once xs) (sorted-of (sorted_once xs) (sorted_once-rises xs))

-- Items that all differ have no repeats.
pub different-distinct : (xs : List Value) → all_different xs ≡ true → Distinct xs
different-distinct [] e = tt
different-distinct (x ∷ xs) e = (
  not-true (holds xs x) (and-left (not (holds xs x)) (all_different xs) e),
  different-distinct xs (and-right (not (holds xs x)) (all_different xs) e),
)

-- Nothing is added behind.
pub no-more : (xs : List Value) → xs ++ [] ≡ xs
no-more [] = refl
no-more (x ∷ xs) = ap (λ l. x ∷ l) (no-more xs)
