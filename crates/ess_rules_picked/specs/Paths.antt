-- An index of several steps, step by step: by the first step, the others, and the operands.
use Rattle.std.specs.Prelude.{Bool, false, List, [], ◌∷◌, Option, Some, None}
use Rattle.ess_semantics.specs.Trees.{Step, by_value, index, Ex, Exs, node_ex, no_exs, more_exs}

-- The other steps of an index by the first one.
abbrev pub first_apart : Bool → Step → List Step → Exs → Option Ex
first_apart b by_value qs (more_exs m (more_exs i es)) =
    Some (node_ex b (index qs) (more_exs (node_ex false (index (by_value ∷ [])) (more_exs m (more_exs i no_exs))) es))
first_apart b by_value qs es = None
first_apart b q qs (more_exs t es) = Some (node_ex b (index qs) (more_exs (node_ex false (index (q ∷ [])) (more_exs t no_exs)) es))
first_apart b q qs no_exs = None
