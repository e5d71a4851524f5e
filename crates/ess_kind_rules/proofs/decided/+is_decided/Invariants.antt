use Rattle.std.proofs.Common.{◌≡◌, map, drop}
use Rattle.ess_core_nodes.specs.NodeViews.{pure_gen}
use Rattle.ess_kind_rules.specs.DecidedItems.{are_decided_items}
use Rattle.ess_kind_rules.proofs.decided.+is_decided.Given as goal

abbrev pub invariant-are_decided_items-loop-item : goal.invariant-are_decided_items-loop-item
invariant-are_decided_items-loop-item l =
    are_decided_items (map pure_gen l.gens) ≡ are_decided_items (map pure_gen (drop l.item-index l.gens))
