-- The values of digits only rise.
use Rattle.std.proofs.Common.{ℕ, suc, ◌+◌, ◌*◌, ◌-◌, ◌≤◌, ◌<◌, List, [], ◌∷◌, length, get_or, drop, arith, le_trans, drop-cons, ◌^◌}
use Rattle.ess_grammar.specs.Tokens.{value_after}

pub value_rises : (high : ℕ) (bs : List ℕ) → high ≤ value_after high bs
value_rises high [] = omega arith
value_rises high (b ∷ bs) = let h = value_rises (10 * high + (b - 48)) bs in omega arith

-- a value that is large after one more digit is large
pub value_stays_large : (high i : ℕ) (bs : List ℕ) → i < length bs → 2 ^ 63 ≤ 10 * high + (get_or bs i 0 - 48) →
    2 ^ 63 ≤ value_after high (drop i bs)
value_stays_large high i bs h k = rw (drop-cons bs i 0 h) (le_trans k (value_rises (10 * high + (get_or bs i 0 - 48)) (drop (suc i) bs)))
