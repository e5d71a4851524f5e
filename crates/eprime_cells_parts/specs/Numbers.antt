-- The numbers and ranges that a text of cells writes.
use Rattle.std.specs.Prelude.{ℤ, Some}
use Rattle.ess_semantics.specs.Domains.{Span}
use Rattle.eprime_cells_machine.specs.declared.values.Number.{Number}
use Rattle.eprime_cells_machine.specs.declared.values.CellRange.{CellRange}

-- The number itself.
abbrev pub number_of : Number → ℤ
number_of (Number.Plain n) = n
number_of (Number.Minus n) = n

-- From a number to a number.
abbrev pub from_to : ℤ → ℤ → Span
from_to a b = record { low = Some a; high = Some b }

-- The numbers of a range.
abbrev pub span_of : CellRange → Span
span_of (CellRange.One a) = from_to (number_of a) (number_of a)
span_of (CellRange.Span a b) = from_to (number_of a) (number_of b)
