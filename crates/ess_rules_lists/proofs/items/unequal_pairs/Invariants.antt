use Rattle.std.proofs.Common.{◌≡◌, map, length}
use Rattle.ess_core_nodes.specs.NodeViews.{pure_node, pure_nodes}
use Rattle.ess_rules_laws.specs.LiteralRules.{unequal_pairs}
use Rattle.ess_rules_lists.specs.Before.{exs_before}
use Rattle.ess_rules_lists.proofs.items.unequal_pairs.Given as goal

abbrev pub invariant-loop-first : goal.invariant-loop-first
invariant-loop-first l = exs_before (map pure_node l.pairs) (unequal_pairs (pure_nodes l.rest)) ≡ unequal_pairs (pure_nodes l.items)

abbrev pub decreases-loop-first : goal.decreases-loop-first
decreases-loop-first l = length l.rest
