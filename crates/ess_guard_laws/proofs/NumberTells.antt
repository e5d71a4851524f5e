-- What the conditions of quotients, remainders and powers tell: that they have values.
use Rattle.std.proofs.Common.{◌≡◌, refl, sym, ap, ◌∙◌, ℕ, zero, suc, Bool, true, false, ◌||◌, not, if◌then◌else◌, [], ◌∷◌, ℤ, pos, negsuc, ◌-ℤ◌, ◌*ℤ◌, Option, Some, None, option_map, is_some, arith}
use Rattle.std.proofs.lemmas.Int.{ints}
use Rattle.std.specs.List.{list_all}
use Rattle.std.specs.Ordering.{is_lt}
use Rattle.std.specs.Cmp.{int_cmp_is}
use Rattle.std.specs.declared.cmp.Ordering.TheVariants.{Less}
use Rattle.ess_semantics.specs.declared.words.Op2.{Op2}
use Rattle.ess_semantics.specs.Values.{Value, number}
use Rattle.ess_semantics.specs.Order.{same, below}
use Rattle.ess_semantics.specs.Names.{Names}
use Rattle.ess_semantics.specs.Numbers.{div_down, mod_down, power_of}
use Rattle.ess_semantics.specs.Trees.{binary, Ex, number_ex, ex2}
use Rattle.ess_semantics.specs.Operators.{as_truth, number_in, on_ints, value_of_node, false_where_undefined}
use Rattle.ess_semantics.specs.Meaning.{Env, meaning}
use Rattle.ess_semantics.specs.Totality.{HasValue}
use Rattle.ess_semantics.proofs.Orders.{same-itself}
use Rattle.ess_guard_laws.specs.Origins.{Origin}
use Rattle.ess_guard_laws.specs.Conditions.{unless, nil_ex, as_number, is_not_zero, is_above_zero, quotient_conditions, power_conditions}
use Rattle.ess_guard_laws.specs.Holds.{Hold}
use Rattle.ess_guard_laws.proofs.NumberForms.{NumbersIn, read-number}

-- A quotient by a number other than 0 has a value.
pub div-some : (x y : ℤ) → (y ≡ pos 0 → ⊥) → is_some (div_down x y) ≡ true
div-some x (pos zero) e = absurd (e refl)
div-some (pos a) (pos (suc b)) e = refl
div-some (negsuc a) (pos (suc b)) e = refl
div-some (pos a) (negsuc b) e = refl
div-some (negsuc a) (negsuc b) e = refl

map-some : {A B : Type 0} (f : A → B) (o : Option A) → is_some o ≡ true → is_some (option_map f o) ≡ true
map-some f None e = cc
map-some f (Some x) e = refl

-- So has a remainder.
pub mod-some : (x y : ℤ) → (y ≡ pos 0 → ⊥) → is_some (mod_down x y) ≡ true
mod-some x y e = map-some (λ q. x -ℤ (y *ℤ q)) (div_down x y) (div-some x y e)

-- Two operands that are there.
pub both-there : (P : Option Value → Option Value → Type 0) (o p : Option Value) →
    ((v w : Value) → o ≡ Some v → p ≡ Some w → P (Some v) (Some w)) → list_all is_some (o ∷ p ∷ []) ≡ true → P o p
both-there P None p f h = cc
both-there P (Some v) None f h = cc
both-there P (Some v) (Some w) f h = f v w refl refl

-- One operand that is there.
pub one-there : (P : Option Value → Type 0) (o : Option Value) → ((v : Value) → o ≡ Some v → P (Some v)) → list_all is_some (o ∷ []) ≡ true →
    P o
one-there P None f h = cc
one-there P (Some v) f h = f v refl

not-zero-form : (b : Ex) (env : Env) (v : Value) → is_not_zero b ≡ true → meaning b env ≡ Some v → number_in v ≡ pos 0 → ⊥
not-zero-form (number_ex (pos zero)) env v t e q = cc
not-zero-form (number_ex (pos (suc n))) env v t e q = let r : pos (suc n) ≡ pos 0 =
    ap (λ o. elim o [ None ↦ pos (suc n) | Some w ↦ number_in w ]) e ∙ q in cc
not-zero-form (number_ex (negsuc n)) env v t e q = let r : negsuc n ≡ pos 0 =
    ap (λ o. elim o [ None ↦ negsuc n | Some w ↦ number_in w ]) e ∙ q in cc
not-zero-form b env v t e q = cc

compared : (o : Op2) (c : Ex) (env : Env) (u : Value) → meaning c env ≡ Some u →
    as_truth (meaning (ex2 true o c nil_ex) env) ≡ as_truth
    (false_where_undefined true (value_of_node (binary o) (Some u ∷ Some (number (pos 0)) ∷ [])))
compared o c env u e = ap (λ z. as_truth (false_where_undefined true (value_of_node (binary o) (z ∷ Some (number (pos 0)) ∷ [])))) e

-- Where `b != 0` holds, b isn't 0.
ne-tells : (k : Names Origin) (b : Ex) (env : Env) (v : Value) → NumbersIn k env → meaning b env ≡ Some v →
    as_truth (meaning (ex2 true Op2.Ne (as_number k b) nil_ex) env) ≡ true → number_in v ≡ pos 0 → ⊥
ne-tells k b env v n e h q =
    let r : not (same (number (number_in v)) (number (pos 0))) ≡ true =
    sym (compared Op2.Ne (as_number k b) env (number (number_in v)) (read-number k b env v n e)) ∙ h in
    let s : same (number (number_in v)) (number (pos 0)) ≡ true =
    ap (λ z. same (number z) (number (pos 0))) q ∙ same-itself (number (pos 0)) in
    let t : false ≡ true = ap not (sym s) ∙ r in cc

-- What the condition of a quotient or a remainder tells.
pub quotient-tells : (o : Op2) (f : ℤ → ℤ → Option ℤ) (k : Names Origin) (a b : Ex) (env : Env) → NumbersIn k env →
    ((v w : Value) → value_of_node (binary o) (Some v ∷ Some w ∷ []) ≡ on_ints f v w) →
    ((x y : ℤ) → (y ≡ pos 0 → ⊥) → is_some (f x y) ≡ true) →
    Hold (quotient_conditions k b) env →
    HasValue (value_of_node (binary o) (meaning a env ∷ meaning b env ∷ [])) (meaning a env ∷ meaning b env ∷ [])
quotient-tells o f k a b env n is some c = go (is_not_zero b) refl c
  where
    fine : ((w : Value) → meaning b env ≡ Some w → number_in w ≡ pos 0 → ⊥) →
        HasValue (value_of_node (binary o) (meaning a env ∷ meaning b env ∷ [])) (meaning a env ∷ meaning b env ∷ [])
    fine z h = both-there (λ p q. is_some (value_of_node (binary o) (p ∷ q ∷ [])) ≡ true) (meaning a env) (meaning b env)
        (λ v w p q. ap is_some (is v w) ∙ map-some number (f (number_in v) (number_in w)) (some (number_in v) (number_in w) (z w q))) h

    go : (t : Bool) → is_not_zero b ≡ t → Hold (unless t (ex2 true Op2.Ne (as_number k b) nil_ex)) env →
        HasValue (value_of_node (binary o) (meaning a env ∷ meaning b env ∷ [])) (meaning a env ∷ meaning b env ∷ [])
    go true z h = fine (λ w e. not-zero-form b env w z e)
    go false z h = fine (λ w e. ne-tells k b env w n e h.0)

power-there : (x y : ℤ) (n : ℕ) → y ≡ pos n → (y ≡ pos 0 → x ≡ pos 0 → ⊥) → is_some (power_of x y) ≡ true
power-there (pos zero) (pos zero) n e h = absurd (h refl refl)
power-there (pos (suc m)) (pos zero) n e h = refl
power-there (negsuc m) (pos zero) n e h = refl
power-there (pos zero) (pos (suc k)) n e h = refl
power-there (pos (suc m)) (pos (suc k)) n e h = refl
power-there (negsuc m) (pos (suc k)) n e h = refl
power-there x (negsuc k) n e h = cc

-- Where `b >= 0` holds, b isn't below 0.
ge-tells : (k : Names Origin) (b : Ex) (env : Env) (v : Value) → NumbersIn k env → meaning b env ≡ Some v →
    as_truth (meaning (ex2 true Op2.Ge (as_number k b) nil_ex) env) ≡ true → (n : ℕ) × (number_in v ≡ pos n)
ge-tells k b env v n e h =
    go (number_in v) (sym (compared Op2.Ge (as_number k b) env (number (number_in v)) (read-number k b env v n e)) ∙ h)
  where
    go : (z : ℤ) → not (below (number z) (number (pos 0))) ≡ true → (n : ℕ) × (z ≡ pos n)
    go (pos m) q = (m, refl)
    go (negsuc m) q = let r : false ≡ true = ap (λ o. not (is_lt o)) (int_cmp_is (negsuc m) (pos 0) Less (omega (arith, ints))) ∙ q in cc

above-form : (b : Ex) (env : Env) (v : Value) → is_above_zero b ≡ true → meaning b env ≡ Some v → (n : ℕ) × (number_in v ≡ pos (suc n))
above-form (number_ex (pos (suc n))) env v t e = (n, ap (λ o. elim o [ None ↦ pos (suc n) | Some w ↦ number_in w ]) (sym e))
above-form b env v t e = cc

or-tells : (p q : Bool) (P : Type 0) → p || q ≡ true → (p ≡ true → P) → (q ≡ true → P) → P
or-tells true q P h f g = f refl
or-tells false q P h f g = g h

-- What the conditions of a power tell.
pub power-tells : (k : Names Origin) (a b : Ex) (env : Env) → NumbersIn k env → Hold (power_conditions k a b) env →
    HasValue (value_of_node (binary Op2.Pow) (meaning a env ∷ meaning b env ∷ [])) (meaning a env ∷ meaning b env ∷ [])
power-tells k a b env n c = go (is_above_zero b) refl c
  where
    Fine : Type 0
    Fine = HasValue (value_of_node (binary Op2.Pow) (meaning a env ∷ meaning b env ∷ [])) (meaning a env ∷ meaning b env ∷ [])

    apart : Ex
    apart = ex2 true Op2.Or (ex2 true Op2.Ne (as_number k b) nil_ex) (ex2 true Op2.Ne (as_number k a) nil_ex)

    fine : ((v w : Value) → meaning a env ≡ Some v → meaning b env ≡ Some w →
        (m : ℕ) × (number_in w ≡ pos m) × (number_in w ≡ pos 0 → number_in v ≡ pos 0 → ⊥)) → Fine
    fine z h = both-there (λ p q. is_some (value_of_node (binary Op2.Pow) (p ∷ q ∷ [])) ≡ true) (meaning a env) (meaning b env)
        (λ v w p q. let r = z v w p q in map-some number (power_of (number_in v) (number_in w))
        (power-there (number_in v) (number_in w) r.0 r.1 r.2)) h

    low : (t : Bool) → is_not_zero a ≡ t → as_truth (meaning (ex2 true Op2.Ge (as_number k b) nil_ex) env) ≡ true →
        Hold (unless t apart) env → Fine
    low true z g h = fine (λ v w p q. let r = ge-tells k b env w n q g in (r.0, r.1, λ y x. not-zero-form a env v z p x))
    low false z g h = fine (λ v w p q. let r = ge-tells k b env w n q g in (
      r.0,
      r.1,
      or-tells (as_truth (meaning (ex2 true Op2.Ne (as_number k b) nil_ex) env))
          (as_truth (meaning (ex2 true Op2.Ne (as_number k a) nil_ex) env)) (number_in w ≡ pos 0 → number_in v ≡ pos 0 → ⊥) h.0
          (λ s y x. ne-tells k b env w n q s y) (λ s y x. ne-tells k a env v n p s x),
    ))

    go : (t : Bool) → is_above_zero b ≡ t →
        Hold (if t then [] else ex2 true Op2.Ge (as_number k b) nil_ex ∷ unless (is_not_zero a) apart) env → Fine
    go true e h = fine (λ v w p q. let r = above-form b env w e q in
        (suc r.0, r.1, λ y x. let s : pos (suc r.0) ≡ pos 0 = sym r.1 ∙ y in cc))
    go false e h = low (is_not_zero a) refl h.0 h.1
