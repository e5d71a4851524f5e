-- Division that rounds down, by division with a remainder that isn't negative.
use Rattle.std.proofs.Common.{◌≡◌, ℕ, zero, suc, ◌+◌, ◌-◌, ◌*◌, ◌/◌, ◌%◌, ◌<◌, ℤ, pos, negsuc, neg_ℤ, ◌-ℤ◌, ◌+ℤ◌, ◌*ℤ◌, ◌<ℤ◌, ◌≤ℤ◌, Some, refl, ap, ◌∙◌, arith}
use Rattle.std.specs.Int.{int_div_euclid, int_rem_euclid}
use Rattle.std.proofs.lemmas.Int.{ints, to_z-of_z}
use Rattle.std.proofs.lemmas.Nat.{div-mul-add, div-add-mod'}
use Rattle.ess_semantics.specs.Numbers.{div_down, mod_down}

-- where d divides a, d - 1 more leaves the quotient
up_flat : (a b : ℕ) → a % suc b ≡ 0 → (a + b) / suc b ≡ a / suc b
up_flat a b h =
    let m = div-add-mod' a (suc b) in
    let e : a + b ≡ a / suc b * suc b + b = omega (arith, m) in
    ap (λ n. n / suc b) e ∙ div-mul-add (a / suc b) (suc b) b (omega arith)

up_more : (a b : ℕ) → 0 < a % suc b → (a + b) / suc b ≡ suc (a / suc b)
up_more a b h =
    let m = div-add-mod' a (suc b) in
    let l : a % suc b < suc b = omega arith in
    let e : a + b ≡ suc (a / suc b) * suc b + (a % suc b - 1) = omega (arith, m) in
    ap (λ n. n / suc b) e ∙ div-mul-add (suc (a / suc b)) (suc b) (a % suc b - 1) (omega arith)

next_more : (a b : ℕ) → suc b - 1 - a % suc b ≡ 0 → suc a / suc b ≡ suc (a / suc b)
next_more a b h =
    let m = div-add-mod' a (suc b) in
    let l : a % suc b < suc b = omega arith in
    let e : suc a ≡ suc (a / suc b) * suc b + 0 = omega (arith, m) in
    ap (λ n. n / suc b) e ∙ div-mul-add (suc (a / suc b)) (suc b) 0 (omega arith)

next_flat : (a b : ℕ) → 0 < suc b - 1 - a % suc b → suc a / suc b ≡ a / suc b
next_flat a b h =
    let m = div-add-mod' a (suc b) in
    let e : suc a ≡ a / suc b * suc b + (a % suc b + 1) = omega (arith, m) in
    ap (λ n. n / suc b) e ∙ div-mul-add (a / suc b) (suc b) (a % suc b + 1) (omega arith)

at_0 : (n : ℕ) → (pos n ≡ pos 0 → ⊥) → 0 < n
at_0 zero h = absurd (h refl)
at_0 (suc n) h = omega arith

is_0 : (n : ℕ) → pos n ≡ pos 0 → n ≡ 0
is_0 n h = cc

less_one : (n : ℕ) → neg_ℤ (pos (suc n)) ≡ neg_ℤ (pos n) -ℤ pos 1
less_one n = omega (arith, ints)

one_less : (n : ℕ) → pos n ≡ pos (suc n) -ℤ pos 1
one_less n = omega (arith, ints)

pub down_above : (x y : ℤ) → (y ≡ pos 0 → ⊥) → pos 0 ≤ℤ y → div_down x y ≡ Some (int_div_euclid x y)
down_above x (pos zero) n l = absurd (n refl)
down_above (pos a) (pos (suc b)) n l = refl
down_above (negsuc a) (pos (suc b)) n l = refl
down_above x (negsuc b) n l = absurd (omega (arith, ints))

pub down_even : (x y : ℤ) → y <ℤ pos 0 → int_rem_euclid x y ≡ pos 0 → div_down x y ≡ Some (int_div_euclid x y)
down_even x (pos b) l h = absurd (omega (arith, ints))
down_even (pos a) (negsuc b) l h = ap (λ k. Some (neg_ℤ (pos k))) (up_flat a b (is_0 _ h))
down_even (negsuc a) (negsuc b) l h = ap (λ k. Some (pos k)) (next_more a b (is_0 _ h))

pub down_less : (x y : ℤ) → y <ℤ pos 0 → (int_rem_euclid x y ≡ pos 0 → ⊥) → div_down x y ≡ Some (int_div_euclid x y -ℤ pos 1)
down_less x (pos b) l h = absurd (omega (arith, ints))
down_less (pos a) (negsuc b) l h = ap (λ k. Some (neg_ℤ (pos k))) (up_more a b (at_0 _ h)) ∙ ap Some (less_one (a / suc b))
down_less (negsuc a) (negsuc b) l h = ap (λ k. Some (pos k)) (next_flat a b (at_0 _ h)) ∙ ap Some (one_less (a / suc b))

-- ---- the remainder

pub rest_less : (x y : ℤ) → y <ℤ pos 0 → (int_rem_euclid x y ≡ pos 0 → ⊥) → mod_down x y ≡ Some (int_rem_euclid x y +ℤ y)
rest_less x (pos b) l h = absurd (omega (arith, ints))
rest_less (pos a) (negsuc b) l h =
    let m = div-add-mod' a (suc b) in
    ap (λ k. Some (pos a -ℤ (negsuc b *ℤ neg_ℤ (pos k)))) (up_more a b (at_0 _ h)) ∙ ap Some (omega (arith, ints, m))
rest_less (negsuc a) (negsuc b) l h =
    let m = div-add-mod' a (suc b) in
    ap (λ k. Some (negsuc a -ℤ (negsuc b *ℤ pos k))) (next_flat a b (at_0 _ h)) ∙ ap Some (omega (arith, ints, m))

-- ---- by -1

one_part : (n : ℕ) → n / 1 ≡ n
one_part n = omega (arith, div-add-mod' n 1)

pub down_negative : (x : ℤ) → div_down x (negsuc 0) ≡ Some (neg_ℤ x)
down_negative (pos a) = ap (λ k. Some (neg_ℤ (pos k))) (one_part (a + 0) ∙ omega arith)
down_negative (negsuc a) = ap (λ k. Some (pos k)) (one_part (suc a))

pub ruleset quotients = (down_above, down_even, down_less, down_negative, rest_less, to_z-of_z)
