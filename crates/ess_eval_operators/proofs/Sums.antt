-- The sum of a list, item by item.
use Rattle.std.proofs.Common.{◌≡◌, ap, sym, ◌∙◌, ℕ, ◌+◌, ◌<◌, List, length, get_or, drop, map, ℤ, ◌+ℤ◌, arith}
use Rattle.std.proofs.lemmas.Int.{ints}
use Rattle.std.proofs.lemmas.List.{at_drop_more}
use Rattle.ess_semantics.specs.Operators.{number_in, sum_of}
use Rattle.ess_core.specs.declared.values.Val.{Val}
use Rattle.ess_core.specs.ValueViews.{pure_val}

-- One more number.
pub sum_step : (xs : List Val) (i : ℕ) (x : Val) (t n s : ℤ) → i < length xs → x ≡ get_or xs i x → n ≡ number_in (pure_val x)
    → t +ℤ sum_of (map pure_val (drop i xs)) ≡ s → (t +ℤ n) +ℤ sum_of (map pure_val (drop (i + 1) xs)) ≡ s
sum_step xs i x t n s h is e all =
    let a : sum_of (map pure_val (drop i xs)) ≡ number_in (pure_val x) +ℤ sum_of (map pure_val (drop (i + 1) xs)) =
    at_drop_more (λ l. sum_of (map pure_val l)) xs i x h
    ∙ ap (λ z. number_in (pure_val z) +ℤ sum_of (map pure_val (drop (i + 1) xs))) (sym is) in
    omega (arith, ints, a, e, all)
