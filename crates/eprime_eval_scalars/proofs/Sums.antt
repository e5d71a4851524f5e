-- The sum of a list, item by item.
use Rattle.std.proofs.Common.{◌≡◌, ap, sym, ◌∙◌, ℕ, ◌+◌, ◌<◌, List, length, get_or, drop, map, ℤ, ◌+ℤ◌, arith}
use Rattle.std.proofs.lemmas.Int.{ints}
use Rattle.std.proofs.lemmas.List.{at_drop_more}
use Rattle.ess_semantics.specs.Operators.{number_in, sum_of}
use Rattle.eprime_eval_scalars.specs.declared.scalars.Scalar.{Scalar}
use Rattle.eprime_eval_scalars.specs.ScalarViews.{pure_scalar}

-- One more number.
pub sum_step : (xs : List Scalar) (i : ℕ) (x : Scalar) (t n s : ℤ) → i < length xs → x ≡ get_or xs i x → n ≡ number_in (pure_scalar x)
    → t +ℤ sum_of (map pure_scalar (drop i xs)) ≡ s → (t +ℤ n) +ℤ sum_of (map pure_scalar (drop (i + 1) xs)) ≡ s
sum_step xs i x t n s h is e all =
    let a : sum_of (map pure_scalar (drop i xs)) ≡ number_in (pure_scalar x) +ℤ sum_of (map pure_scalar (drop (i + 1) xs)) =
    at_drop_more (λ l. sum_of (map pure_scalar l)) xs i x h
    ∙ ap (λ z. number_in (pure_scalar z) +ℤ sum_of (map pure_scalar (drop (i + 1) xs))) (sym is) in
    omega (arith, ints, a, e, all)

-- The same at a place.
pub sum_step_at : (xs : List Scalar) (i : ℕ) (d : Scalar) (t n s : ℤ) → i < length xs → n ≡ number_in (pure_scalar (get_or xs i d))
    → t +ℤ sum_of (map pure_scalar (drop i xs)) ≡ s → (t +ℤ n) +ℤ sum_of (map pure_scalar (drop (i + 1) xs)) ≡ s
sum_step_at xs i d t n s h e all =
    let a : sum_of (map pure_scalar (drop i xs)) ≡ number_in (pure_scalar (get_or xs i d)) +ℤ sum_of (map pure_scalar (drop (i + 1) xs)) =
    at_drop_more (λ l. sum_of (map pure_scalar l)) xs i d h in
    omega (arith, ints, a, e, all)
