-- Numbers that may be outside 64 bits.
use Rattle.std.specs.Prelude.{Bool, false, not, ℤ, Option, Some, None}
use Rattle.ess_semantics.specs.Large.{in_64_bits}

-- Whether there is a number, outside 64 bits.
abbrev pub is_big_number : Option ℤ → Bool
is_big_number (Some n) = not (in_64_bits n)
is_big_number None = false
