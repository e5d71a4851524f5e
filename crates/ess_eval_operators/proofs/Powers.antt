-- Powers of small numbers, and powers outside 64 bits.
use Rattle.std.proofs.Common.{◌≡◌, ℕ, zero, suc, ◌^◌, ◌%◌, ◌<◌, ◌≤◌, ◌==◌, Bool, true, false, cond, not, ℤ, pos, ◌≤ℤ◌, ◌<ℤ◌, Some, None, refl, ap, sym, ◌∙◌, arith, le-ltb, eq-eqb, ne_eqb}
use Rattle.std.specs.Prelude.{nat_lt, nat_abs}
use lib.IntN.{negsuc, neg_ℤ}
use Rattle.std.specs.Int.{int_pow}
use Rattle.std.proofs.lemmas.Int.{ints}
use native.Mathlib.Nat.{pow-le-pow_left, pow-le-pow_right}
use Rattle.ess_semantics.specs.Large.{in_64_bits}
use Rattle.ess_semantics.specs.Numbers.{power_of}
use Rattle.ess_eval_operators.specs.Numbers.{is_big_number}

one_power : (n : ℕ) → 1 ^ n ≡ 1
one_power zero = refl
one_power (suc n) = omega (arith, one_power n)

zero_power : (n : ℕ) → 0 ^ suc n ≡ 0
zero_power n = omega arith

-- ---- powers of -1, 0 and 1

pub power_of_one : (x : ℤ) (n : ℕ) → nat_abs x < 2 → pos 0 <ℤ x → Some (pos 1) ≡ power_of x (pos n)
power_of_one (pos zero) n l h = absurd (omega (arith, ints))
power_of_one (pos (suc zero)) n l h = sym (ap (λ k. Some (pos k)) (one_power n))
power_of_one (pos (suc (suc k))) n l h = absurd (omega arith)
power_of_one (negsuc k) n l h = absurd (omega (arith, ints))

pub power_of_minus_one : (x : ℤ) (n : ℕ) (p : ℤ) → nat_abs x < 2 → x <ℤ pos 0 → Some p ≡ power_of (negsuc 0) (pos n)
    → Some p ≡ power_of x (pos n)
power_of_minus_one (pos k) n p l h e = absurd (omega (arith, ints))
power_of_minus_one (negsuc zero) n p l h e = e
power_of_minus_one (negsuc (suc k)) n p l h e = absurd (omega arith)

is_zero : (x : ℤ) → x ≤ℤ pos 0 → pos 0 ≤ℤ x → x ≡ pos 0
is_zero x a b = omega (arith, ints)

pub power_of_zero : (x : ℤ) (n : ℕ) → x ≤ℤ pos 0 → pos 0 ≤ℤ x → (n ≡ 0 → ⊥) → Some (pos 0) ≡ power_of x (pos n)
power_of_zero x zero a b k = absurd (k refl)
power_of_zero x (suc n) a b k = sym (ap (λ z. power_of z (pos (suc n))) (is_zero x a b) ∙ ap (λ j. Some (pos j)) (zero_power n))

pub no_power_of_zero : (x : ℤ) (n : ℕ) → x ≤ℤ pos 0 → pos 0 ≤ℤ x → n ≡ 0 → None ≡ power_of x (pos n)
no_power_of_zero x n a b k = sym (ap (λ z. power_of z (pos n)) (is_zero x a b) ∙ ap (λ m. power_of (pos 0) (pos m)) k)

pub no_power_below : (x e : ℤ) → e <ℤ pos 0 → power_of x e ≡ None
no_power_below x (pos n) l = absurd (omega (arith, ints))
no_power_below x (negsuc n) l = refl

-- ---- powers of other numbers

power_is : (x e : ℤ) (n : ℕ) → e ≡ pos n → (x ≡ pos 0 → ⊥) → power_of x e ≡ Some (int_pow x n)
power_is (pos zero) e n h z = absurd (z refl)
power_is (pos (suc a)) e n h z = ap (power_of (pos (suc a))) h
power_is (negsuc a) e n h z = ap (power_of (negsuc a)) h

size_negative : (n : ℕ) → nat_abs (neg_ℤ (pos n)) ≡ n
size_negative zero = refl
size_negative (suc n) = refl

size_power : (x : ℤ) (n : ℕ) → nat_abs (int_pow x n) ≡ nat_abs x ^ n
size_power (pos a) n = refl
size_power (negsuc a) n = go (n % 2 == 0)
  where
    go : (b : Bool) → nat_abs (cond b (pos (suc a ^ n)) (neg_ℤ (pos (suc a ^ n)))) ≡ suc a ^ n
    go true = refl
    go false = size_negative (suc a ^ n)

by_size : (z : ℤ) → in_64_bits z ≡ nat_lt (nat_abs z) (2 ^ 63)
by_size (pos n) = refl
by_size (negsuc n) = refl

far_power : (x : ℤ) (n : ℕ) → 2 ≤ nat_abs x → 63 ≤ n → in_64_bits (int_pow x n) ≡ false
far_power x n h k =
    let a : 2 ^ n ≤ nat_abs x ^ n = pow-le-pow_left h n in
    let b : 2 ^ 63 ≤ 2 ^ n = pow-le-pow_right (omega arith) k in
    let e = size_power x n in
    let l : 2 ^ 63 ≤ nat_abs (int_pow x n) = omega (arith, a, b, e) in
    by_size (int_pow x n) ∙ le-ltb (nat_abs (int_pow x n)) (2 ^ 63) l

not_zero : (x : ℤ) → 2 ≤ nat_abs x → x ≡ pos 0 → ⊥
not_zero x h e = let q = ap nat_abs e in absurd (omega (arith, q))

-- An exponent above 62, of a number that is none of -1, 0 and 1.
pub big_power : (x e : ℤ) → 2 ≤ nat_abs x → pos 62 <ℤ e → is_big_number (power_of x e) ≡ true
big_power x (negsuc n) h l = absurd (omega (arith, ints))
big_power x (pos n) h l =
    let k : 63 ≤ n = omega (arith, ints) in
    ap is_big_number (power_is x (pos n) n refl (not_zero x h)) ∙ ap not (far_power x n h k)

-- An exponent from 0 to 62, as the code has it.
pub near_power : (x e : ℤ) (n : ℕ) → 2 ≤ nat_abs x → e ≡ pos n → power_of x e ≡ Some (int_pow x n)
near_power x e n h k = power_is x e n k (not_zero x h)

-- ---- powers of -1

pub even_power : (n : ℕ) → n % 2 ≡ 0 → Some (pos 1) ≡ power_of (negsuc 0) (pos n)
even_power n p =
    sym (ap (λ b. Some (cond b (pos (1 ^ n)) (neg_ℤ (pos (1 ^ n))))) (eq-eqb (n % 2) 0 p) ∙ ap (λ j. Some (pos j)) (one_power n))

pub odd_power : (n : ℕ) → (n % 2 ≡ 0 → ⊥) → Some (negsuc 0) ≡ power_of (negsuc 0) (pos n)
odd_power n p =
    sym (ap (λ b. Some (cond b (pos (1 ^ n)) (neg_ℤ (pos (1 ^ n))))) (ne_eqb (n % 2) 0 p) ∙ ap (λ j. Some (neg_ℤ (pos j))) (one_power n))

pub ruleset powers = (
  power_of_one,
  power_of_minus_one,
  power_of_zero,
  no_power_of_zero,
  no_power_below,
  big_power,
  near_power,
  even_power,
  odd_power,
)
