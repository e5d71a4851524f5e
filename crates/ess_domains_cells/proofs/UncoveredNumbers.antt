-- Counting the numbers of ranges: how many a range adds to those of later ones.
use Rattle.std.proofs.Common.{◌≡◌, refl, sym, ap, ◌∙◌, ℕ, zero, suc, ◌+◌, Bool, true, false, ◌&&◌, ◌||◌, if◌then◌else◌, List, [], ◌∷◌, ◌++◌, length, ℤ, pos, negsuc, ◌+ℤ◌, ◌-ℤ◌, ◌<ℤ◌, Option, Some, None, is_some, int_le, arith}
use Rattle.std.proofs.lemmas.Int.{ints}
use Rattle.ess_semantics.specs.Lists.{and_then, list_or_none}
use Rattle.ess_semantics.specs.Values.{Value, number}
use Rattle.ess_semantics.specs.Order.{same, same_int}
use Rattle.ess_semantics.specs.Numbers.{natural}
use Rattle.ess_semantics.specs.Collections.{holds, place, sorted_once}
use Rattle.ess_semantics.specs.Domains.{Span, numbers_up, interval}
use Rattle.ess_semantics.specs.Membership.{in_span}
use Rattle.ess_semantics.proofs.Tests.{and-left, and-right}
use Rattle.ess_semantics.proofs.Orders.{same-equal, same_int-equal}
use Rattle.ess_semantics.proofs.Sorting.{one-sorted-list, holds-place, holds-sorted_once, place-rises, sorted_once-rises, place-length}
use Rattle.ess_eval_domains.specs.Ranges.{is_bounded, all_bounded, span_numbers, numbers_of_spans}
use Rattle.ess_domains_cells.specs.Uncovered.{is_covered, uncovered, distance, uncovered_by, counted_once}

-- ---- one more value in a list without repeats

held-or : (xs : List Value) (v w : Value) (b : Bool) → same v w ≡ b → holds xs v ≡ true → b || holds xs w ≡ holds xs w
held-or xs v w true e h = sym (ap (holds xs) (sym (same-equal v w e)) ∙ h)
held-or xs v w false e h = refl

place-held : (v : Value) (xs : List Value) → holds xs v ≡ true → length (sorted_once (v ∷ xs)) ≡ length (sorted_once xs)
place-held v xs h =
    let there : holds (sorted_once xs) v ≡ true = holds-sorted_once xs v ∙ h in
    ap length (one-sorted-list (place v (sorted_once xs)) (sorted_once xs) (place-rises v (sorted_once xs) (sorted_once-rises xs)) (sorted_once-rises xs)
    (λ w. holds-place v w (sorted_once xs) ∙ held-or (sorted_once xs) v w (same v w) refl there))

place-new : (v : Value) (xs : List Value) → holds xs v ≡ false → length (sorted_once (v ∷ xs)) ≡ suc (length (sorted_once xs))
place-new v xs h = place-length v (sorted_once xs) (holds-sorted_once xs v ∙ h)

-- ---- a row of numbers

holds-append : (xs ys : List Value) (v : Value) → holds (xs ++ ys) v ≡ holds xs v || holds ys v
holds-append [] ys v = refl
holds-append (x ∷ xs) ys v = go (same x v) (holds-append xs ys v)
  where
    go : (b : Bool) → holds (xs ++ ys) v ≡ holds xs v || holds ys v → b || holds (xs ++ ys) v ≡ (b || holds xs v) || holds ys v
    go true e = refl
    go false e = e

up-outside : (a : ℤ) (n : ℕ) (z : ℤ) → z <ℤ a → holds (numbers_up a n) (number z) ≡ false
up-outside a zero z l = refl
up-outside a (suc n) z l = go (same_int a z) refl (up-outside (a +ℤ pos 1) n z (omega (arith, ints)))
  where
    differ : a ≡ z → ⊥
    differ e = omega (arith, ints)

    go : (t : Bool) → same_int a z ≡ t → holds (numbers_up (a +ℤ pos 1) n) (number z) ≡ false → same (number a) (number z) || holds (numbers_up (a +ℤ pos 1) n) (number z) ≡ false
    go true e k = absurd (differ (same_int-equal a z e))
    go false e k = ap (λ b. b || holds (numbers_up (a +ℤ pos 1) n) (number z)) e ∙ k

-- How many of the numbers the list doesn't hold are so many more members.
up-adds : (ss : List Span) (xs : List Value) (a : ℤ) (n : ℕ) → ((z : ℤ) → holds xs (number z) ≡ is_covered ss z)
    → length (sorted_once (numbers_up a n ++ xs)) ≡ uncovered ss a n + length (sorted_once xs)
up-adds ss xs a zero h = omega arith
up-adds ss xs a (suc n) h = go (is_covered ss a) refl (up-adds ss xs (a +ℤ pos 1) n h)
  where
    rest : List Value
    rest = numbers_up (a +ℤ pos 1) n ++ xs

    there : holds rest (number a) ≡ is_covered ss a
    there = holds-append (numbers_up (a +ℤ pos 1) n) xs (number a) ∙ ap (λ b. b || holds xs (number a)) (up-outside (a +ℤ pos 1) n a (omega (arith, ints))) ∙ h a

    go : (b : Bool) → is_covered ss a ≡ b → length (sorted_once rest) ≡ uncovered ss (a +ℤ pos 1) n + length (sorted_once xs)
        → length (sorted_once (number a ∷ rest)) ≡ (if b then uncovered ss (a +ℤ pos 1) n else suc (uncovered ss (a +ℤ pos 1) n)) + length (sorted_once xs)
    go true e k = place-held (number a) rest (there ∙ e) ∙ k
    go false e k = place-new (number a) rest (there ∙ e) ∙ ap suc k ∙ omega arith

up-is : (a : ℤ) (n : ℕ) (z : ℤ) → holds (numbers_up a n) (number z) ≡ int_le a z && int_le ((z -ℤ a) +ℤ pos 1) (pos n)
up-is a zero z = grind (arith, ints)
up-is a (suc n) z = ap (λ b. same_int a z || b) (up-is (a +ℤ pos 1) n z) ∙ grind (arith, ints)

interval-is : (a b z : ℤ) → holds (interval a b) (number z) ≡ int_le a z && int_le z b
interval-is a b z = go ((b -ℤ a) +ℤ pos 1) refl
  where
    go : (m : ℤ) → (b -ℤ a) +ℤ pos 1 ≡ m → holds (numbers_up a (natural m)) (number z) ≡ int_le a z && int_le z b
    go (pos n) e = up-is a n z ∙ grind (arith, ints)
    go (negsuc n) e = grind (arith, ints)

-- ---- all ranges

-- A number is among those of bounded ranges where some range holds it.
numbers-are : (ss : List Span) (z : ℤ) → all_bounded ss ≡ true → holds (numbers_of_spans ss) (number z) ≡ is_covered ss z
numbers-are [] z h = refl
numbers-are (s ∷ ss) z h =
    holds-append (span_numbers s) (numbers_of_spans ss) (number z)
    ∙ ap (λ b. b || holds (numbers_of_spans ss) (number z)) (one s.low s.high (and-left (is_bounded s) (all_bounded ss) h))
    ∙ ap (λ b. in_span z s || b) (numbers-are ss z (and-right (is_bounded s) (all_bounded ss) h))
  where
    one : (lo hi : Option ℤ) → is_some lo && is_some hi ≡ true
        → holds (list_or_none (and_then lo (λ a. and_then hi (λ b. Some (interval a b))))) (number z) ≡ in_span z (record { low = lo; high = hi })
    one None hi e = cc
    one (Some a) None e = cc
    one (Some a) (Some b) e = interval-is a b z

-- The members of bounded ranges are those that each range adds to the later ones.
pub bounded-counted : (ss : List Span) → all_bounded ss ≡ true → length (sorted_once (numbers_of_spans ss)) ≡ counted_once ss
bounded-counted [] h = refl
bounded-counted (s ∷ ss) h = one s.low s.high (and-left (is_bounded s) (all_bounded ss) h) (bounded-counted ss (and-right (is_bounded s) (all_bounded ss) h))
  where
    rest : List Value
    rest = numbers_of_spans ss

    one : (lo hi : Option ℤ) → is_some lo && is_some hi ≡ true → length (sorted_once rest) ≡ counted_once ss
        → length (sorted_once (list_or_none (and_then lo (λ a. and_then hi (λ b. Some (interval a b)))) ++ rest)) ≡ uncovered_by ss lo hi + counted_once ss
    one None hi e k = cc
    one (Some a) None e k = cc
    one (Some a) (Some b) e k =
        up-adds ss rest a (distance a b) (λ z. numbers-are ss z (and-right (is_bounded s) (all_bounded ss) h)) ∙ ap (λ m. uncovered ss a (distance a b) + m) k
