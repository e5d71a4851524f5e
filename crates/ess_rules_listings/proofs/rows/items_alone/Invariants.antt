use Rattle.std.proofs.Common.{◌≡◌, map, take}
use Rattle.ess_core_nodes.specs.NodeViews.{pure_node}
use Rattle.ess_rules_forms.specs.PureAlternatives.{pure_alternative}
use Rattle.ess_rules_listings.specs.ListedTerms.{item_alone}
use Rattle.ess_rules_listings.proofs.rows.items_alone.Given as goal

abbrev pub invariant-loop-item : goal.invariant-loop-item
invariant-loop-item l = map pure_alternative l.all ≡ map item_alone (map pure_node (take l.item-index l.items))
