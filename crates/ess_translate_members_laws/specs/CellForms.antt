-- The domain of a table's cells as a domain of numbers: what is no atom has no numbers, and a named type has its positions.
use Rattle.std.specs.Prelude.{pos}
use Rattle.ess_semantics.specs.Domains.{Domain, booleans, integers, named, between}
use Rattle.ess_semantics.specs.Declarations.{Declaration}

-- The domain of numbers, or bool, with the same numbers.
abbrev pub cell_form : Domain → Domain
cell_form booleans = booleans
cell_form (integers ss) = integers ss
cell_form (named t n) = between (pos 1) (pos n)
cell_form d = between (pos 1) (pos 0)

-- A declaration with such a domain of its cells.
abbrev pub plain : Declaration → Declaration
plain d = record { axes = d.axes; cell = cell_form d.cell }
