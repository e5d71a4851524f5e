-- Divisors, bases and exponents that are there everywhere.
use Rattle.std.proofs.Common.{◌≡◌, refl, sym, ap, ◌∙◌, subst, ℕ, zero, suc, Bool, true, false, ◌&&◌, not, if◌then◌else◌, [], ◌∷◌, ℤ, pos, negsuc, Option, Some, None, arith}
use Rattle.std.proofs.lemmas.Int.{ints}
use Rattle.std.specs.Prelude.{◌+ℤ◌}
use Rattle.std.specs.Ordering.{is_eq, is_lt}
use Rattle.std.specs.declared.cmp.Ordering.TheVariants.{Less, Greater}
use Rattle.std.specs.Cmp.{int_cmp_is}
use Rattle.ess_semantics.specs.declared.words.Op2.{Op2}
use Rattle.ess_semantics.specs.declared.words.Fun.{Fun}
use Rattle.ess_semantics.specs.Values.{Value, number}
use Rattle.ess_semantics.specs.Order.{same, below}
use Rattle.ess_semantics.specs.Trees.{binary, word, matrix_literal, Ex, number_ex, ex2}
use Rattle.ess_semantics.specs.Operators.{value_of_node, false_where_undefined, number_in}
use Rattle.ess_semantics.specs.Meaning.{Env, meaning}
use Rattle.ess_rules_laws.specs.Rules.{IsNumber}
use Rattle.ess_refine_laws.specs.Everywhere.{is_nonzero, is_positive, nil_number, chosen, divisor, base, exponent, raised, Replaces}
use Rattle.ess_refine_laws.proofs.Replaced.{replaces-itself}

-- ---- numerals

-- 1 in the place of 0.
abbrev pub off_zero : ℤ → ℤ
off_zero (pos zero) = pos 1
off_zero (pos (suc k)) = pos (suc k)
off_zero (negsuc k) = negsuc k

the-number : (n m : ℤ) → Some (number n) ≡ Some (number m) → n ≡ m
the-number n m e = ap (λ o. number_in (elim o [ None ↦ number n | Some v ↦ v ])) e

-- A numeral other than 0 stays.
nonzero-stays : (a : Ex) → is_nonzero a ≡ true → (env : Env) (n : ℤ) → meaning a env ≡ Some (number n) → off_zero n ≡ n
nonzero-stays (number_ex (pos (suc k))) q env n e = subst (λ z. off_zero z ≡ z) (the-number (pos (suc k)) n e) refl
nonzero-stays (number_ex (negsuc k)) q env n e = subst (λ z. off_zero z ≡ z) (the-number (negsuc k) n e) refl
nonzero-stays _ q env n e = cc

-- A numeral above 0 is above 0.
positive-is : (a : Ex) → is_positive a ≡ true → (env : Env) (n : ℤ) → meaning a env ≡ Some (number n) → (k : ℕ) × (n ≡ pos (suc k))
positive-is (number_ex (pos (suc k))) q env n e = (k, sym (the-number (pos (suc k)) n e))
positive-is _ q env n e = cc

-- ---- divisors

-- 1 where the truth value is true, else 0.
abbrev one_if : Bool → ℤ
one_if b = pos (if b then 1 else 0)

-- A number above 0 isn't 0.
not-zero : (k : ℕ) → same (number (pos (suc k))) (number (pos 0)) ≡ false
not-zero k = ap is_eq (sym (int_cmp_is (pos (suc k)) (pos 0) Greater (omega (arith, ints))))

-- It isn't below 0 either, but 0 below it.
above-zero : (k : ℕ) → below (number (pos 0)) (number (pos (suc k))) ≡ true
above-zero k = ap is_lt (sym (int_cmp_is (pos 0) (pos (suc k)) Less (omega (arith, ints))))

not-below-zero : (k : ℕ) → below (number (pos (suc k))) (number (pos 0)) ≡ false
not-below-zero k = ap is_lt (sym (int_cmp_is (pos (suc k)) (pos 0) Greater (omega (arith, ints))))

shifted : (m : ℤ) → m +ℤ one_if (same (number m) (number (pos 0))) ≡ off_zero m
shifted (pos zero) = refl
shifted (pos (suc k)) = ap (λ b. pos (suc k) +ℤ one_if b) (not-zero k) ∙ (let e : pos (suc k) +ℤ pos 0 ≡ pos (suc k) =
    omega (arith, ints) in e)
shifted (negsuc k) = let e : negsuc k +ℤ pos 0 ≡ negsuc k = omega (arith, ints) in e

-- The sum of a number and whether it is 0.
abbrev Shift : Option Value → Option Value
Shift o = value_of_node (binary Op2.Plus)
    (o ∷ value_of_node (word Fun.ToInt) (false_where_undefined true (value_of_node (binary Op2.Eq) (o ∷ Some (number
    (pos 0)) ∷ [])) ∷ []) ∷ [])

pub divisor-means : (b : Ex) (env : Env) (m : ℤ) → meaning b env ≡ Some (number m) → meaning (divisor b) env ≡ Some (number (off_zero m))
divisor-means b env m e = go (is_nonzero b) refl
  where
    go : (q : Bool) → is_nonzero b ≡ q →
        meaning (if q then b else ex2 false Op2.Plus b (chosen (ex2 true Op2.Eq b nil_number))) env ≡ Some (number (off_zero m))
    go true q = e ∙ ap (λ z. Some (number z)) (sym (nonzero-stays b q env m e))
    go false q = ap Shift e ∙ ap (λ z. Some (number z)) (shifted m)

-- The quotient and the remainder are there, and are the same where the divisor isn't 0.
abbrev pub Quotient : Op2 → Option Value → Option Value → Option Value
Quotient o a b = value_of_node (binary o) (a ∷ b ∷ [])

pub divided : (n m : ℤ) → Replaces (Quotient Op2.Div (Some (number n)) (Some (number m))) (Quotient Op2.Div (Some (number n)) (Some
    (number (off_zero m))))
divided (pos a) (pos zero) = record { is_number = tt; is_same = λ v e. cc }
divided (negsuc a) (pos zero) = record { is_number = tt; is_same = λ v e. cc }
divided (pos a) (pos (suc b)) = replaces-itself _ tt
divided (negsuc a) (pos (suc b)) = replaces-itself _ tt
divided (pos a) (negsuc b) = replaces-itself _ tt
divided (negsuc a) (negsuc b) = replaces-itself _ tt

pub remains : (n m : ℤ) → Replaces (Quotient Op2.Mod (Some (number n)) (Some (number m))) (Quotient Op2.Mod (Some (number n)) (Some
    (number (off_zero m))))
remains (pos a) (pos zero) = record { is_number = tt; is_same = λ v e. cc }
remains (negsuc a) (pos zero) = record { is_number = tt; is_same = λ v e. cc }
remains (pos a) (pos (suc b)) = replaces-itself _ tt
remains (negsuc a) (pos (suc b)) = replaces-itself _ tt
remains (pos a) (negsuc b) = replaces-itself _ tt
remains (negsuc a) (negsuc b) = replaces-itself _ tt

-- ---- powers

-- Whether the base is 0 and the exponent isn't above 0.
abbrev is_wrong : ℤ → ℤ → Bool
is_wrong n m = same (number n) (number (pos 0)) && not (below (number (pos 0)) (number m))

abbrev Raise : Option Value → Option Value → Option Value
Raise o p = value_of_node (binary Op2.Plus) (o ∷ value_of_node (word Fun.ToInt) (false_where_undefined true (value_of_node (binary Op2.And)
    (false_where_undefined true (value_of_node (binary Op2.Eq) (o ∷ Some (number (pos 0)) ∷ []))
    ∷ false_where_undefined true (value_of_node (binary Op2.Le) (p ∷ Some (number (pos 0)) ∷ [])) ∷ [])) ∷ []) ∷ [])

is-right : (n m : ℤ) → off_zero n ≡ n → n ≡ n +ℤ one_if (is_wrong n m)
is-right (pos zero) m e = absurd (let f : pos 1 ≡ pos 0 = e in omega (arith, ints))
is-right (pos (suc k)) m e = (let f : pos (suc k) ≡ pos (suc k) +ℤ pos 0 = omega (arith, ints) in f)
    ∙ ap (λ b. pos (suc k) +ℤ one_if (b && not (below (number (pos 0)) (number m)))) (sym (not-zero k))
is-right (negsuc k) m e = let f : negsuc k ≡ negsuc k +ℤ pos 0 = omega (arith, ints) in f

base-means : (a b : Ex) (env : Env) (n m : ℤ) → meaning a env ≡ Some (number n) → meaning b env ≡ Some (number m) →
    meaning (base a b) env ≡ Some (number (n +ℤ one_if (is_wrong n m)))
base-means a b env n m e f = go (is_nonzero a) refl
  where
    go : (q : Bool) → is_nonzero a ≡ q →
        meaning (if q then a
        else ex2 false Op2.Plus a (chosen (ex2 true Op2.And (ex2 true Op2.Eq a nil_number) (ex2 true Op2.Le b nil_number)))) env
        ≡ Some (number (n +ℤ one_if (is_wrong n m)))
    go true q = e ∙ ap (λ z. Some (number z)) (is-right n m (nonzero-stays a q env n e))
    go false q = ap (λ o. Raise o (meaning b env)) e ∙ ap (λ p. Raise (Some (number n)) p) f

-- The greater of a number and 0.
abbrev lifted : ℤ → ℤ
lifted (pos k) = pos k
lifted (negsuc k) = pos 0

abbrev Lift : Option Value → Option Value
Lift o = value_of_node (word Fun.Max) (value_of_node matrix_literal (o ∷ Some (number (pos 0)) ∷ []) ∷ [])

lifts : (m : ℤ) → Lift (Some (number m)) ≡ Some (number (lifted m))
lifts (pos zero) = refl
lifts (pos (suc k)) = ap (λ b. Some (if b then number (pos 0) else number (pos (suc k)))) (not-below-zero k)
lifts (negsuc k) = refl

exponent-means : (b : Ex) (env : Env) (m : ℤ) → meaning b env ≡ Some (number m) → meaning (exponent b) env ≡ Some (number (lifted m))
exponent-means b env m e = ap Lift e ∙ lifts m

-- The power is there, and the same where it was there.
abbrev Power : ℤ → ℤ → Option Value
Power n m = Quotient Op2.Pow (Some (number n)) (Some (number m))

-- Of a base that stays.
unmoved : (n m k : ℤ) → n ≡ k → IsNumber (Power n m) → Replaces (Power n m) (Power k m)
unmoved n m k e t = subst (λ z. Replaces (Power n m) (Power z m)) e (replaces-itself (Power n m) t)

-- Where the exponent is below 0 there was no power.
was-none : (o p : Option Value) → o ≡ None → IsNumber p → Replaces o p
was-none o p e t = record { is_number = t; is_same = λ v f. let g : None ≡ Some v = sym e ∙ f in cc }

powers : (n m : ℤ) → Replaces (Power n m) (Power (n +ℤ one_if (is_wrong n m)) (lifted m))
powers (pos zero) (pos zero) = was-none _ _ refl tt
powers (pos zero) (pos (suc k)) = unmoved (pos zero) (pos (suc k)) _
    (let f : pos 0 ≡ pos 0 +ℤ pos 0 = omega (arith, ints) in
    f ∙ ap (λ b. pos 0 +ℤ one_if (same (number (pos 0)) (number (pos 0)) && not b)) (sym (above-zero k))) tt
powers (pos zero) (negsuc k) = was-none _ _ refl tt
powers (pos (suc a)) (pos m) =
    unmoved (pos (suc a)) (pos m) _ (is-right (pos (suc a)) (pos m) refl) tt
powers (pos (suc a)) (negsuc k) = was-none _ _ refl (subst (λ z. IsNumber (Power z (pos 0))) (is-right (pos (suc a)) (negsuc k) refl) tt)
powers (negsuc a) (pos m) = unmoved (negsuc a) (pos m) _ (is-right (negsuc a) (pos m) refl) tt
powers (negsuc a) (negsuc k) = was-none _ _ refl (subst (λ z. IsNumber (Power z (pos 0))) (is-right (negsuc a) (negsuc k) refl) tt)

pub raised-means : (a b : Ex) (env : Env) (n m : ℤ) → meaning a env ≡ Some (number n) → meaning b env ≡ Some (number m) →
    Replaces (Quotient Op2.Pow (Some (number n)) (Some (number m))) (meaning (raised a b) env)
raised-means a b env n m e f = go (is_positive b) refl
  where
    plain : (k : ℕ) → m ≡ pos (suc k) → IsNumber (Quotient Op2.Pow (Some (number n)) (Some (number m)))
    plain k q = subst (λ z. IsNumber (Quotient Op2.Pow (Some (number n)) (Some (number z)))) (sym q) (there n)
      where
        there : (n : ℤ) → IsNumber (Quotient Op2.Pow (Some (number n)) (Some (number (pos (suc k)))))
        there (pos zero) = tt
        there (pos (suc a)) = tt
        there (negsuc a) = tt

    go : (q : Bool) → is_positive b ≡ q →
        Replaces (Quotient Op2.Pow (Some (number n)) (Some (number m)))
        (meaning (if q then ex2 false Op2.Pow a b else ex2 false Op2.Pow (base a b) (exponent b)) env)
    go true q =
        let k = positive-is b q env m f in
        subst (λ z. Replaces (Quotient Op2.Pow (Some (number n)) (Some (number m))) z)
        (ap (λ o. Quotient Op2.Pow o (Some (number m))) (sym e) ∙ ap (Quotient Op2.Pow (meaning a env)) (sym f))
        (replaces-itself (Quotient Op2.Pow (Some (number n)) (Some (number m))) (plain k.0 k.1))
    go false q =
        subst (λ z. Replaces (Quotient Op2.Pow (Some (number n)) (Some (number m))) z)
        (ap (λ o. Quotient Op2.Pow o (Some (number (lifted m)))) (sym (base-means a b env n m e f))
        ∙ ap (Quotient Op2.Pow (meaning (base a b) env)) (sym (exponent-means b env m f))) (powers n m)
