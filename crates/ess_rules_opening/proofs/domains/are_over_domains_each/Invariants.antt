use Rattle.std.proofs.Common.{◌≡◌, map, drop}
use Rattle.ess_core_nodes.specs.NodeViews.{pure_gen}
use Rattle.ess_rules_opening.specs.OverDomains.{are_over_domains_each}
use Rattle.ess_rules_opening.proofs.domains.are_over_domains_each.Given as goal

abbrev pub invariant-loop-item : goal.invariant-loop-item
invariant-loop-item l =
    are_over_domains_each (map pure_gen l.gens) ≡ are_over_domains_each (map pure_gen (drop l.item-index l.gens))
