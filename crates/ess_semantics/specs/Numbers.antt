-- Whole numbers: division that rounds down, its remainder, and powers. A quotient by 0, a power with a negative
-- exponent and 0 to the power 0 have no value.
use Rattle.std.specs.Prelude.{ℕ, zero, suc, ◌+◌, ◌/◌, List, [], ◌∷◌, ℤ, pos, negsuc, ◌-ℤ◌, ◌*ℤ◌, neg_ℤ, Option, Some, None, option_map}
use Rattle.std.specs.Int.{int_pow}

-- The quotient, rounded down.
abbrev pub div_down : ℤ → ℤ → Option ℤ
div_down x (pos zero) = None
div_down (pos a) (pos (suc b)) = Some (pos (a / suc b))
div_down (pos a) (negsuc b) = Some (neg_ℤ (pos ((a + b) / suc b)))
div_down (negsuc a) (pos (suc b)) = Some (negsuc (a / suc b))
div_down (negsuc a) (negsuc b) = Some (pos (suc a / suc b))

-- x - y * (x / y)
abbrev pub mod_down : ℤ → ℤ → Option ℤ
mod_down x y = option_map (λ q. x -ℤ (y *ℤ q)) (div_down x y)

-- x to the power of a whole number, where it has a value.
abbrev pub power_of : ℤ → ℤ → Option ℤ
power_of (pos zero) (pos zero) = None
power_of x (pos n) = Some (int_pow x n)
power_of x (negsuc n) = None

-- The number, or 0 where it is below 0.
abbrev pub natural : ℤ → ℕ
natural (pos n) = n
natural (negsuc n) = 0

-- The number, where it isn't below 0.
abbrev pub not_below_0 : ℤ → Option ℕ
not_below_0 (pos n) = Some n
not_below_0 (negsuc n) = None

-- n numbers, from k on.
abbrev pub run_from : ℕ → ℕ → List ℤ
run_from k zero = []
run_from k (suc n) = pos k ∷ run_from (suc k) n

-- The numbers 1 to n.
abbrev pub one_to : ℕ → List ℤ
one_to n = run_from 1 n
