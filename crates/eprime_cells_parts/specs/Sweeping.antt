-- The members of ranges, one after the other: the ranges are gone through in the order of their lower ends.
use Rattle.std.specs.Prelude.{ℕ, zero, suc, ℤ, pos, negsuc, ◌+ℤ◌, ◌-ℤ◌, int_le, if◌then◌else◌, List, [], ◌∷◌, ◌++◌, Option, Some, None}
use Rattle.std.specs.Ordering.{int_cmp, is_lt}
use Rattle.std.specs.Prelude.{IsSortedBy}
use Rattle.ess_semantics.specs.Numbers.{natural}
use Rattle.ess_semantics.specs.Order.{same_int}
use Rattle.eprime_cells_machine.specs.declared.values.CellRange.{CellRange}
use Rattle.eprime_cells_parts.specs.declared.sweeping.Ends.{Ends}
use Rattle.eprime_cells_parts.specs.Numbers.{number_of}

-- The ends of a range.
abbrev pub ends_of : CellRange → Ends
ends_of (CellRange.One a) = record { from = number_of a; to = number_of a }
ends_of (CellRange.Span a b) = record { from = number_of a; to = number_of b }

-- The lower ends of ranges don't fall.
abbrev pub LowsRise : List Ends → Type 0
LowsRise rs = IsSortedBy (λ (a : Ends) (b : Ends). is_lt (int_cmp a.from b.from)) rs

-- n numbers, from a on.
abbrev pub up_from : ℤ → ℕ → List ℤ
up_from a zero = []
up_from a (suc n) = a ∷ up_from (a +ℤ pos 1) n

-- The greater one of two numbers.
abbrev pub greater : ℤ → ℤ → ℤ
greater a b = if int_le a b then b else a

-- The members of ranges whose lower ends don't fall, from k on: those of the first range, and those that the others have beyond it.
abbrev pub swept : ℤ → List Ends → List ℤ
swept k [] = []
swept k (r ∷ rs) = up_from (greater k r.from) (natural ((r.to +ℤ pos 1) -ℤ greater k r.from)) ++ swept (greater k (r.to +ℤ pos 1)) rs

-- What stands behind a list at the front of another, where it stands there.
abbrev pub behind : List ℤ → List ℤ → Option (List ℤ)
behind [] ys = Some ys
behind (x ∷ xs) [] = None
behind (x ∷ xs) (y ∷ ys) = if same_int x y then behind xs ys else None

-- The least number of 64 bits.
abbrev pub lowest : ℤ
lowest = negsuc 9223372036854775807
