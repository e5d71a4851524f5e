-- Whether generators and conditions, one by one, have bounds that are there by their form.
use Rattle.std.specs.Prelude.{Bool, true, false, ◌&&◌, List, [], ◌∷◌}
use Rattle.ess_core.specs.TreeViews.{Item, over_item, from_item, cond_item}
use Rattle.ess_numbered_laws.specs.ThereByForm.{dom_there}

-- Whether one generator or condition has.
abbrev pub item_there : Item → Bool
item_there (over_item p d) = dom_there d
item_there (from_item p e) = false
item_there (cond_item e) = true

-- Whether all of them have.
abbrev pub items_there : List Item → Bool
items_there [] = true
items_there (i ∷ is) = item_there i && items_there is
