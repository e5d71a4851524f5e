-- The conditions of quotients, remainders and powers hold where these have a value.
use Rattle.std.proofs.Common.{◌≡◌, refl, sym, ap, ◌∙◌, ℕ, zero, suc, Bool, true, false, ◌||◌, not, if◌then◌else◌, [], ◌∷◌, ℤ, pos, negsuc, ◌+ℤ◌, Some, None, option_map, is_some, arith}
use Rattle.std.proofs.Math.IntN.{+ℤ_idr}
use Rattle.std.specs.Ordering.{is_lt}
use Rattle.std.proofs.lemmas.Int.{ints}
use Rattle.std.specs.Cmp.{int_cmp_is}
use Rattle.std.specs.declared.cmp.Ordering.TheVariants.{Greater}
use Rattle.ess_semantics.specs.declared.words.Op2.{Op2}
use Rattle.ess_semantics.specs.Values.{Value, number, truth, item, node}
use Rattle.ess_semantics.specs.Order.{same, below}
use Rattle.ess_semantics.specs.Names.{Names}
use Rattle.ess_semantics.specs.Numbers.{div_down, mod_down, power_of}
use Rattle.ess_semantics.specs.Trees.{binary, Ex, ex2}
use Rattle.ess_semantics.specs.Operators.{as_truth, number_in, on_ints, value_of_node, false_where_undefined}
use Rattle.ess_semantics.specs.Meaning.{Env, meaning}
use Rattle.ess_semantics.proofs.Orders.{same-equal}
use Rattle.ess_guard_laws.specs.Origins.{Origin, is_number}
use Rattle.ess_guard_laws.specs.Conditions.{nil_ex, as_number, is_not_zero, is_above_zero, quotient_conditions, power_conditions}
use Rattle.ess_guard_laws.specs.Holds.{Hold}
use Rattle.ess_guard_laws.proofs.Holding.{unless-holds, choose-holds}

-- The number that an operator reads.
pub as-number-means : (k : Names Origin) (b : Ex) (env : Env) (v : Value) → meaning b env ≡ Some v → (u : Value) × (meaning (as_number k b) env ≡ Some u) × (number_in u ≡ number_in v)
as-number-means k b env v e = go (is_number k b)
  where
    go : (t : Bool) → (u : Value) × (meaning (if t then b else ex2 false Op2.Plus b nil_ex) env ≡ Some u) × (number_in u ≡ number_in v)
    go true = (v, e, refl)
    go false = (number (number_in v +ℤ pos 0), ap (λ o. value_of_node (binary Op2.Plus) (o ∷ Some (number (pos 0)) ∷ [])) e, +ℤ_idr (number_in v))

-- A comparison of the number with 0.
compared : (o : Op2) (c : Ex) (env : Env) (u : Value) → meaning c env ≡ Some u →
    as_truth (meaning (ex2 true o c nil_ex) env) ≡ as_truth (false_where_undefined true (value_of_node (binary o) (Some u ∷ Some (number (pos 0)) ∷ [])))
compared o c env u e = ap (λ z. as_truth (false_where_undefined true (value_of_node (binary o) (z ∷ Some (number (pos 0)) ∷ [])))) e

not-same : (u : Value) → (number_in u ≡ pos 0 → ⊥) → not (same u (number (pos 0))) ≡ true
not-same u h = go (same u (number (pos 0))) refl
  where
    go : (t : Bool) → same u (number (pos 0)) ≡ t → not t ≡ true
    go true e = absurd (h (ap number_in (same-equal u (number (pos 0)) e)))
    go false e = refl

-- `b != 0`
ne-holds : (k : Names Origin) (b : Ex) (env : Env) (v : Value) → meaning b env ≡ Some v → (number_in v ≡ pos 0 → ⊥) → as_truth (meaning (ex2 true Op2.Ne (as_number k b) nil_ex) env) ≡ true
ne-holds k b env v e h = let r = as-number-means k b env v e in compared Op2.Ne (as_number k b) env r.0 r.1 ∙ not-same r.0 (λ q. h (sym r.2 ∙ q))

not-below : (u : Value) (n : ℕ) → number_in u ≡ pos n → not (below u (number (pos 0))) ≡ true
not-below (number (pos zero)) n e = refl
not-below (number (pos (suc m))) n e = ap (λ o. not (is_lt o)) (sym (int_cmp_is (pos (suc m)) (pos 0) Greater (omega (arith, ints))))
not-below (number (negsuc m)) n e = cc
not-below (truth b) n e = refl
not-below (item t m) n e = refl
not-below (node a b) n e = refl

-- `b >= 0`
ge-holds : (k : Names Origin) (b : Ex) (env : Env) (v : Value) (n : ℕ) → meaning b env ≡ Some v → number_in v ≡ pos n → as_truth (meaning (ex2 true Op2.Ge (as_number k b) nil_ex) env) ≡ true
ge-holds k b env v n e h = let r = as-number-means k b env v e in compared Op2.Ge (as_number k b) env r.0 r.1 ∙ not-below r.0 n (r.2 ∙ h)

div-none : (x : ℤ) → div_down x (pos 0) ≡ None
div-none (pos a) = refl
div-none (negsuc a) = refl

mod-none : (x : ℤ) → mod_down x (pos 0) ≡ None
mod-none (pos a) = refl
mod-none (negsuc a) = refl

-- A quotient has no value where the divisor reads as 0.
pub div-divisor : (a b : Value) → is_some (on_ints div_down a b) ≡ true → number_in b ≡ pos 0 → ⊥
div-divisor a b h e = let r : true ≡ false = sym h ∙ ap (λ y. is_some (option_map number (div_down (number_in a) y))) e ∙ ap (λ o. is_some (option_map number o)) (div-none (number_in a)) in cc

-- So it is with a remainder.
pub mod-divisor : (a b : Value) → is_some (on_ints mod_down a b) ≡ true → number_in b ≡ pos 0 → ⊥
mod-divisor a b h e = let r : true ≡ false = sym h ∙ ap (λ y. is_some (option_map number (mod_down (number_in a) y))) e ∙ ap (λ o. is_some (option_map number o)) (mod-none (number_in a)) in cc

-- The condition of a quotient.
pub quotient-holds : (k : Names Origin) (b : Ex) (env : Env) (v : Value) → meaning b env ≡ Some v → (number_in v ≡ pos 0 → ⊥) → Hold (quotient_conditions k b) env
quotient-holds k b env v e h = unless-holds (is_not_zero b) _ env (ne-holds k b env v e h)

-- A power has a value where the exponent isn't below 0, and not both are 0.
power-some : (x y : ℤ) → is_some (option_map number (power_of x y)) ≡ true → (n : ℕ) × (y ≡ pos n) × ((y ≡ pos 0) → (x ≡ pos 0) → ⊥)
power-some (pos zero) (pos zero) e = cc
power-some (pos (suc m)) (pos zero) e = (0, refl, λ p q. cc)
power-some (negsuc m) (pos zero) e = (0, refl, λ p q. cc)
power-some (pos zero) (pos (suc n)) e = (suc n, refl, λ p q. cc)
power-some (pos (suc m)) (pos (suc n)) e = (suc n, refl, λ p q. cc)
power-some (negsuc m) (pos (suc n)) e = (suc n, refl, λ p q. cc)
power-some (pos zero) (negsuc n) e = cc
power-some (pos (suc m)) (negsuc n) e = cc
power-some (negsuc m) (negsuc n) e = cc

-- Either of two numbers isn't 0.
either-holds : (k : Names Origin) (a b : Ex) (env : Env) (v w : Value) → meaning a env ≡ Some v → meaning b env ≡ Some w → (number_in w ≡ pos 0 → number_in v ≡ pos 0 → ⊥) →
    as_truth (meaning (ex2 true Op2.Or (ex2 true Op2.Ne (as_number k b) nil_ex) (ex2 true Op2.Ne (as_number k a) nil_ex)) env) ≡ true
either-holds k a b env v w p q h = go (number_in w) refl
  where
    left : as_truth (meaning (ex2 true Op2.Ne (as_number k b) nil_ex) env) ≡ true → as_truth (meaning (ex2 true Op2.Or (ex2 true Op2.Ne (as_number k b) nil_ex) (ex2 true Op2.Ne (as_number k a) nil_ex)) env) ≡ true
    left e = ap (λ z. z || as_truth (meaning (ex2 true Op2.Ne (as_number k a) nil_ex) env)) e

    right : (t : Bool) → as_truth (meaning (ex2 true Op2.Ne (as_number k a) nil_ex) env) ≡ true → t || as_truth (meaning (ex2 true Op2.Ne (as_number k a) nil_ex) env) ≡ true
    right true e = refl
    right false e = e

    go : (z : ℤ) → number_in w ≡ z → as_truth (meaning (ex2 true Op2.Or (ex2 true Op2.Ne (as_number k b) nil_ex) (ex2 true Op2.Ne (as_number k a) nil_ex)) env) ≡ true
    go (pos zero) e = right (as_truth (meaning (ex2 true Op2.Ne (as_number k b) nil_ex) env)) (ne-holds k a env v p (h e))
    go (pos (suc n)) e = left (ne-holds k b env w q (λ z. let r : pos (suc n) ≡ pos 0 = sym e ∙ z in cc))
    go (negsuc n) e = left (ne-holds k b env w q (λ z. let r : negsuc n ≡ pos 0 = sym e ∙ z in cc))

-- The conditions of a power.
pub power-holds : (k : Names Origin) (a b : Ex) (env : Env) (v w : Value) → meaning a env ≡ Some v → meaning b env ≡ Some w → is_some (on_ints power_of v w) ≡ true → Hold (power_conditions k a b) env
power-holds k a b env v w p q h =
    let r = power-some (number_in v) (number_in w) h in
    choose-holds (is_above_zero b) _ env (λ t. (ge-holds k b env w r.0 q r.1, unless-holds (is_not_zero a) _ env (either-holds k a b env v w p q r.2)))
