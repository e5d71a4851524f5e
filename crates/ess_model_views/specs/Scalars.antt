-- Which plans are of scalars.
use Rattle.std.specs.Prelude.{List, [], ◌∷◌, Option, Some, None}
use Rattle.ess_semantics.specs.declared.words.ReprKind.{ReprKind}
use Rattle.ess_semantics.specs.Values.{Text}
use Rattle.ess_semantics.specs.Trees.{Repr, repr}
use Rattle.ess_semantics.specs.TableNames.{Named}

-- The name of the first table.
abbrev pub first_cell : List Named → Option Text
first_cell [] = None
first_cell (n ∷ ns) = Some n.0

-- The name of the cell of a scalar, by its representation and tables.
abbrev pub scalar_cell : Repr → List Named → Option Text
scalar_cell (repr ReprKind.Atom rs) ns = first_cell ns
scalar_cell r ns = None
