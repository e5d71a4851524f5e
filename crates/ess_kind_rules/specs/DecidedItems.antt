-- Generators that no table decides, one by one.
use Rattle.std.specs.Prelude.{Bool, true, false, ◌&&◌, not, List, [], ◌∷◌}
use Rattle.ess_semantics.specs.Occurrences.{has_cells}
use Rattle.ess_core.specs.TreeViews.{Item, over_item, from_item, cond_item}
use Rattle.ess_open_rules_laws.specs.OpenSources.{is_decided}

-- Whether a generator is over a domain or such a comprehension, or is a condition that reads no table.
abbrev pub is_decided_item : Item → Bool
is_decided_item (over_item p d) = true
is_decided_item (from_item p e) = is_decided e
is_decided_item (cond_item c) = not (has_cells c)

-- The same of each.
abbrev pub are_decided_items : List Item → Bool
are_decided_items [] = true
are_decided_items (i ∷ is) = is_decided_item i && are_decided_items is
