-- What is known of the values of an env: which of them have items that rise.
use Rattle.std.specs.Prelude.{Bool, true, ◌&&◌, ◌||◌, not, List, [], ◌∷◌}
use Rattle.ess_core.specs.ValueViews.{pure_val}
use Rattle.ess_core.specs.declared.tables.Binding.{Binding}
use Rattle.ess_values_lookups.specs.Rising.{has_rising_items}

-- Whether the items of a value rise wherever the flag in its place is set.
abbrev pub flags_hold : List Bool → List Binding → Bool
flags_hold [] bs = true
flags_hold (f ∷ fs) [] = true
flags_hold (f ∷ fs) (b ∷ bs) = (not f || has_rising_items (pure_val b.val)) && flags_hold fs bs
