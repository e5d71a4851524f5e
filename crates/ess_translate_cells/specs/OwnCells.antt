-- The cells of slots with a dummy, and of flags.
use Rattle.std.specs.Prelude.{Bool, if◌then◌else◌, List, [], ◌∷◌, ℤ, Option, None}
use Rattle.ess_semantics.specs.Domains.{Span, Domain, booleans, tuples}
use Rattle.ess_semantics.specs.Layers.{as_numbers}
use Rattle.ess_semantics.specs.SetLayers.{dummy_of, with_number}
use Rattle.ess_semantics.specs.Declarations.{widened}
use Rattle.ess_translate_members_laws.specs.CellForms.{cell_form}

-- The members of a domain and its dummy as cells, where they can be out of use or not.
abbrev pub dummy_cells : Bool → Domain → Domain
dummy_cells out d =
    cell_form (if out then widened (with_number (dummy_of d) (as_numbers d)) else with_number (dummy_of d) (as_numbers d))

-- The high end of an only range.
abbrev pub high_alone : List Span → Option ℤ
high_alone (s ∷ []) = s.high
high_alone _ = None

-- The flags of arguments that are tuples; none for any other domain.
abbrev pub component_cells : Domain → List Domain
component_cells (tuples ds) = booleans ∷ []
component_cells _ = []
