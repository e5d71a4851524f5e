-- The axes of an argument or tuple that is given by its components.
use Rattle.std.specs.Prelude.{List, [], ◌∷◌, map}
use Rattle.ess_semantics.specs.Domains.{Domain, tuples, domain_list}
use Rattle.ess_semantics.specs.Cells.{Axes}
use Rattle.ess_semantics.specs.Layers.{codes_of}

-- An axis for each component of a tuple; none for any other domain.
abbrev pub component_axes : Domain → Axes
component_axes (tuples ds) = map codes_of (domain_list ds)
component_axes _ = []

-- The axes of the flags of arguments that are tuples; no flags for any other domain.
abbrev pub component_flags : Domain → List Axes
component_flags (tuples ds) = map codes_of (domain_list ds) ∷ []
component_flags _ = []

-- The child of a function whose arguments are tuples; none where they are of another domain.
abbrev pub component_child : Domain → Domain → List Domain
component_child (tuples ds) c = c ∷ []
component_child _ c = []
