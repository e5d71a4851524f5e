-- Generators whose bounds are there by their form, one by one.
use Rattle.std.proofs.Common.{◌≡◌, refl, ap, true, false, ◌&&◌, List, [], ◌∷◌}
use Rattle.ess_core.specs.TreeViews.{Item, over_item, from_item, cond_item, gens_of}
use Rattle.ess_core_nodes.specs.NodeViews.{pure_nodes}
use Rattle.ess_core_nodes.specs.declared.nodes.Node.{Node}
use Rattle.ess_numbered_laws.specs.ThereByForm.{are_none, gens_there, dom_there}
use Rattle.ess_rules_numbered.specs.ThereForms.{items_there}

pub items_are_there : (is : List Item) → items_there is ≡ gens_there (gens_of is)
items_are_there [] = refl
items_are_there (over_item p d ∷ is) = ap (λ b. dom_there d && b) (items_are_there is)
items_are_there (from_item p e ∷ is) = refl
items_are_there (cond_item e ∷ is) = items_are_there is

-- ---- indices

pub no_indices : are_none (pure_nodes []) ≡ true
no_indices = refl

pub some_indices : (x : Node) (xs : List Node) → are_none (pure_nodes (x ∷ xs)) ≡ false
some_indices x xs = refl
