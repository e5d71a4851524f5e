-- Whether a term is written, and whether cells pick an item, by the operands; and the type of the items of a matrix.
use Rattle.std.specs.Prelude.{Bool, true, false, ◌||◌, Option, Some, None}
use Rattle.ess_semantics.specs.Occurrences.{has_cells}
use Rattle.ess_semantics.specs.Values.{a_matrix}
use Rattle.ess_semantics.specs.Trees.{matrix_literal, Ex, Exs, node_ex, matrix_ex, no_exs, more_exs}
use Rattle.ess_semantics.specs.Types.{Ty, compound2}
use Rattle.ess_ordered_laws.specs.IndexedSources.{has_open_index}

-- Whether the term is a literal.
abbrev pub is_written : Ex → Bool
is_written (node_ex false matrix_literal es) = true
is_written (matrix_ex es d) = true
is_written e = false

-- Whether cells pick an item of a matrix, by the matrix and the index.
abbrev pub open_at : Exs → Bool
open_at (more_exs m (more_exs i no_exs)) = has_cells i || has_open_index m
open_at es = false

-- The type of the items of a matrix.
abbrev pub item_of_matrix : Option Ty → Option Ty
item_of_matrix (Some (compound2 a_matrix i t)) = Some t
item_of_matrix t = None
