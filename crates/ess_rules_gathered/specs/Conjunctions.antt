-- The conjunction of conditions, and whether there are two or more.
use Rattle.std.specs.Prelude.{Bool, true, false, List, [], ◌∷◌, Option, Some, None}
use Rattle.ess_semantics.specs.Trees.{Ex}
use Rattle.ess_gathered_laws.specs.GatheredConditions.{all_hold}

abbrev pub conjunction_of : List Ex → Option (Ex × Bool)
conjunction_of [] = None
conjunction_of (c ∷ []) = Some (c, false)
conjunction_of (c ∷ d ∷ ds) = Some (all_hold c (d ∷ ds), true)
