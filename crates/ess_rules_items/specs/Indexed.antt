-- Terms at one index.
use Rattle.std.specs.Prelude.{Bool, true, false, List, [], ◌∷◌, Option, Some, None}
use Rattle.ess_semantics.specs.Trees.{Step, by_value, index, Ex, node_ex, no_exs, more_exs}
use Rattle.ess_views_laws.specs.MatrixViews.{item_view}

-- Whether there is one step, which is a value.
abbrev pub by_value_alone : List Step → Bool
by_value_alone (by_value ∷ []) = true
by_value_alone qs = false

-- The term and its one index.
abbrev pub indexed : Ex → Option (Ex × Ex)
indexed (node_ex b (index (by_value ∷ [])) (more_exs v (more_exs a no_exs))) = Some (v, a)
indexed e = None

-- The view of a matrix at an index.
abbrev pub item_of : Ex → Ex → Option Ex
item_of v a = item_view (node_ex false (index (by_value ∷ [])) (more_exs v (more_exs a no_exs)))
