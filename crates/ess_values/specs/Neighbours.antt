-- Whether values that stand next to one another differ.
use Rattle.std.specs.Prelude.{Bool, true, not, ◌&&◌, List, [], ◌∷◌}
use Rattle.ess_semantics.specs.Values.{Value}
use Rattle.ess_semantics.specs.Order.{same}

-- Whether each two neighbours differ.
abbrev pub neighbours_differ : List Value → Bool
neighbours_differ [] = true
neighbours_differ (x ∷ []) = true
neighbours_differ (x ∷ y ∷ ys) = not (same x y) && neighbours_differ (y ∷ ys)
