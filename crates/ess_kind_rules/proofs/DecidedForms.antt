-- Generators that no table decides: one by one, as one list, and at the first one.
use Rattle.std.proofs.Common.{◌≡◌, refl, ap, ◌&&◌, not, List, [], ◌∷◌}
use Rattle.ess_semantics.specs.Lists.{is_some_and}
use Rattle.ess_semantics.specs.Occurrences.{has_cells}
use Rattle.ess_semantics.specs.Trees.{Gens, no_gens, over, from, cond}
use Rattle.ess_core.specs.TreeViews.{Item, over_item, from_item, cond_item, gens_of}
use Rattle.ess_rules_folds.specs.Forms.{from_parts}
use Rattle.ess_open_rules_laws.specs.OpenSources.{is_decided, are_decided, is_first_decided}
use Rattle.ess_kind_rules.specs.DecidedItems.{are_decided_items}

-- One by one.
pub items_decided : (is : List Item) → are_decided (gens_of is) ≡ are_decided_items is
items_decided [] = refl
items_decided (over_item p d ∷ is) = items_decided is
items_decided (from_item p e ∷ is) = ap (λ b. is_decided e && b) (items_decided is)
items_decided (cond_item c ∷ is) = ap (λ b. not (has_cells c) && b) (items_decided is)

-- At the first.
pub first_decided : (gs : Gens) → is_first_decided gs ≡ is_some_and (from_parts gs) (λ q. is_decided q.1)
first_decided no_gens = refl
first_decided (over p d gs) = refl
first_decided (from p e gs) = refl
first_decided (cond c gs) = refl
