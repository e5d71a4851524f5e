-- An index of several steps, step by step: `m[i, j]` is `m[i][j]`.
use Rattle.std.specs.Prelude.{false, [], ◌∷◌, Option, Some, None}
use Rattle.ess_semantics.specs.Trees.{by_value, to_component, to_field, index, Ex, node_ex, no_exs, more_exs}

-- The first step by itself, and the other steps from there on.
abbrev pub step_apart : Ex → Option Ex
step_apart (node_ex b (index (by_value ∷ q ∷ qs)) (more_exs m (more_exs i es))) =
    Some (node_ex b (index (q ∷ qs)) (more_exs (node_ex false (index (by_value ∷ [])) (more_exs m (more_exs i no_exs))) es))
step_apart (node_ex b (index (to_component k ∷ q ∷ qs)) (more_exs t es)) =
    Some (node_ex b (index (q ∷ qs)) (more_exs (node_ex false (index (to_component k ∷ [])) (more_exs t no_exs)) es))
step_apart (node_ex b (index (to_field a ∷ q ∷ qs)) (more_exs t es)) =
    Some (node_ex b (index (q ∷ qs)) (more_exs (node_ex false (index (to_field a ∷ [])) (more_exs t no_exs)) es))
step_apart e = None
