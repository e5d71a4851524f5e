-- The product of a list: 0 where a factor is 0; else it is at least as far from 0 as each part of it.
use Rattle.std.proofs.Common.{◌≡◌, refl, ap, sym, ◌∙◌, ℕ, zero, suc, ◌+◌, ◌*◌, ◌<◌, ◌≤◌, ◌^◌, Bool, true, false, ◌||◌, List, [], ◌∷◌, length, get_or, drop, map, ℤ, pos, ◌*ℤ◌, neg_ℤ, arith, ltb-false, le-ltb}
use Rattle.std.specs.Prelude.{nat_lt, nat_abs}
use Rattle.std.specs.Ordering.{int_eq, int_cmp, is_eq}
use Rattle.std.specs.declared.cmp.Ordering.{Ordering}
use Rattle.std.specs.declared.cmp.Ordering.TheVariants.{Less, Equal, Greater}
use Rattle.std.proofs.lemmas.Map.Lookups.{exact_signed}
use lib.IntN.{negsuc, zero-*ℤ, *ℤ-zero}
use Rattle.std.proofs.lemmas.List.{at_drop_more}
use Rattle.ess_semantics.specs.Values.{Value}
use Rattle.ess_semantics.specs.Large.{in_64_bits}
use Rattle.ess_semantics.specs.Operators.{number_in, product_of}
use Rattle.ess_semantics.proofs.Tests.{or-left-no, or-right-no}
use Rattle.eprime_eval_scalars.specs.declared.scalars.Scalar.{Scalar}
use Rattle.eprime_eval_scalars.specs.ScalarViews.{pure_scalar}
use Rattle.eprime_eval_scalars.specs.Folds.{has_zero}

-- ---- outside by size

by_size : (z : ℤ) → in_64_bits z ≡ nat_lt (nat_abs z) (2 ^ 63)
by_size (pos n) = refl
by_size (negsuc n) = refl

size_negative : (n : ℕ) → nat_abs (neg_ℤ (pos n)) ≡ n
size_negative zero = refl
size_negative (suc n) = refl

size_times : (a b : ℤ) → nat_abs (a *ℤ b) ≡ nat_abs a * nat_abs b
size_times (pos a) (pos b) = refl
size_times (pos a) (negsuc b) = size_negative (a * suc b)
size_times (negsuc a) (pos b) = size_negative (suc a * b)
size_times (negsuc a) (negsuc b) = refl

grows : (a b : ℕ) → 0 < a → b ≤ a * b
grows zero b h = absurd (omega arith)
grows (suc a) b h = omega arith

not_0 : (a : ℤ) → int_eq a (pos 0) ≡ false → 0 < nat_abs a
not_0 (pos zero) e = cc
not_0 (pos (suc n)) e = omega arith
not_0 (negsuc n) e = omega arith

-- a number outside stays outside, times one that isn't 0
stays_outside : (a b : ℤ) → int_eq a (pos 0) ≡ false → in_64_bits b ≡ false → in_64_bits (a *ℤ b) ≡ false
stays_outside a b z h =
    let l : 2 ^ 63 ≤ nat_abs b = ltb-false (nat_abs b) (2 ^ 63) (sym (by_size b) ∙ h) in
    let g = grows (nat_abs a) (nat_abs b) (not_0 a z) in
    let e = size_times a b in
    let far : 2 ^ 63 ≤ nat_abs (a *ℤ b) = omega (arith, e, g, l) in
    by_size (a *ℤ b) ∙ le-ltb (nat_abs (a *ℤ b)) (2 ^ 63) far

-- ---- over the list

has_none : (x : Value) (xs : List Value) → has_zero (x ∷ xs) ≡ false → int_eq (number_in x) (pos 0) ≡ false
has_none x xs h = or-left-no (int_eq (number_in x) (pos 0)) (has_zero xs) h

has_none_left : (x : Value) (xs : List Value) → has_zero (x ∷ xs) ≡ false → has_zero xs ≡ false
has_none_left x xs h = or-right-no (int_eq (number_in x) (pos 0)) (has_zero xs) h

is_0 : (a : ℤ) → int_eq a (pos 0) ≡ true → a ≡ pos 0
is_0 a e = exact_signed a (pos 0) (go (int_cmp a (pos 0)) e)
  where
    go : (o : Ordering) → is_eq o ≡ true → o ≡ Equal
    go Less e = cc
    go Equal e = refl
    go Greater e = cc

-- A factor 0 makes the product 0.
pub zero_product : (xs : List Value) → has_zero xs ≡ true → product_of xs ≡ pos 0
zero_product [] h = cc
zero_product (x ∷ xs) h = go (int_eq (number_in x) (pos 0)) refl (λ e. zero_product xs e) h
  where
    go : (b : Bool) → int_eq (number_in x) (pos 0) ≡ b → (has_zero xs ≡ true → product_of xs ≡ pos 0) → b || has_zero xs ≡ true
        → product_of (x ∷ xs) ≡ pos 0
    go true e ih h = ap (λ a. a *ℤ product_of xs) (is_0 (number_in x) e) ∙ zero-*ℤ (product_of xs)
    go false e ih h = ap (λ b. number_in x *ℤ b) (ih h) ∙ *ℤ-zero (number_in x)

outside_before : (xs : List Scalar) (i : ℕ) → has_zero (map pure_scalar xs) ≡ false → in_64_bits (product_of (map pure_scalar (drop i xs))) ≡ false
    → in_64_bits (product_of (map pure_scalar xs)) ≡ false
outside_before xs zero z h = h
outside_before [] (suc i) z h = h
outside_before (x ∷ xs) (suc i) z h =
    stays_outside (number_in (pure_scalar x)) (product_of (map pure_scalar xs)) (has_none (pure_scalar x) (map pure_scalar xs) z)
    (outside_before xs i (has_none_left (pure_scalar x) (map pure_scalar xs) z) h)

-- One more factor, from the last to the first.
pub product_step : (xs : List Scalar) (i : ℕ) (x : Scalar) (p : ℤ) → i < length xs → x ≡ get_or xs i x
    → p ≡ product_of (map pure_scalar (drop (i + 1) xs))
    → number_in (pure_scalar x) *ℤ p ≡ product_of (map pure_scalar (drop i xs))
product_step xs i x p h is d =
    ap (λ q. number_in (pure_scalar x) *ℤ q) d ∙ ap (λ z. number_in (pure_scalar z) *ℤ product_of (map pure_scalar (drop (i + 1) xs))) is
    ∙ sym (at_drop_more (λ l. product_of (map pure_scalar l)) xs i x h)

-- Where a part of the product is outside, the product is.
pub product_outside : (xs : List Scalar) (i : ℕ) (x : Scalar) (p : ℤ) → i < length xs → x ≡ get_or xs i x
    → p ≡ product_of (map pure_scalar (drop (i + 1) xs))
    → has_zero (map pure_scalar xs) ≡ false → in_64_bits (number_in (pure_scalar x) *ℤ p) ≡ false
    → in_64_bits (product_of (map pure_scalar xs)) ≡ false
product_outside xs i x p h is d z o = outside_before xs i z (ap in_64_bits (sym (product_step xs i x p h is d)) ∙ o)

get-again : (xs : List Scalar) (i : ℕ) (d : Scalar) → i < length xs → get_or xs i d ≡ get_or xs i (get_or xs i d)
get-again [] i d h = absurd (omega arith)
get-again (x ∷ xs) zero d h = refl
get-again (x ∷ xs) (suc i) d h = get-again xs i d (omega arith)

-- The same at a place.
pub product_outside_at : (xs : List Scalar) (i : ℕ) (d : Scalar) (n p : ℤ) → i < length xs → n ≡ number_in (pure_scalar (get_or xs i d))
    → p ≡ product_of (map pure_scalar (drop (i + 1) xs)) → has_zero (map pure_scalar xs) ≡ false → in_64_bits (n *ℤ p) ≡ false
    → in_64_bits (product_of (map pure_scalar xs)) ≡ false
product_outside_at xs i d n p l e b z o =
    product_outside xs i (get_or xs i d) p l (get-again xs i d l) b z (ap (λ m. in_64_bits (m *ℤ p)) (sym e) ∙ o)

pub ruleset products = (zero_product, product_step, product_outside)
