-- The numbers of several ranges, counted range by range: of each those that no later range holds.
use Rattle.std.specs.Prelude.{ℕ, zero, suc, ◌+◌, Bool, if◌then◌else◌, List, [], ◌∷◌, ℤ, pos, ◌+ℤ◌, ◌-ℤ◌, Option, Some}
use Rattle.std.specs.List.{list_any}
use Rattle.ess_semantics.specs.Numbers.{natural}
use Rattle.ess_semantics.specs.Domains.{Span}
use Rattle.ess_semantics.specs.Membership.{in_span}

-- Whether some range holds the number.
abbrev pub is_covered : List Span → ℤ → Bool
is_covered ss a = list_any (in_span a) ss

-- How many of n numbers, from a on, no range holds.
abbrev pub uncovered : List Span → ℤ → ℕ → ℕ
uncovered ss a zero = 0
uncovered ss a (suc n) = if is_covered ss a then uncovered ss (a +ℤ pos 1) n else suc (uncovered ss (a +ℤ pos 1) n)

-- How many numbers there are from a to b.
abbrev pub distance : ℤ → ℤ → ℕ
distance a b = natural ((b -ℤ a) +ℤ pos 1)

-- How many numbers of a range no other range holds, where it has both bounds.
abbrev pub uncovered_by : List Span → Option ℤ → Option ℤ → ℕ
uncovered_by ss (Some a) (Some b) = uncovered ss a (distance a b)
uncovered_by ss _ _ = 0

-- How many numbers the ranges hold.
abbrev pub counted_once : List Span → ℕ
counted_once [] = 0
counted_once (s ∷ ss) = uncovered_by ss s.low s.high + counted_once ss
