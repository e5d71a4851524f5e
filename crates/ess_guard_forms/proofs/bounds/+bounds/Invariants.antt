use Rattle.std.proofs.Common.{◌+◌}
use Rattle.ess_core_nodes.specs.NodeViews.{pure_node, pure_nodes}
use Rattle.ess_guard_forms.proofs.Weights.{weight, weights}
use Rattle.ess_guard_forms.proofs.bounds.+bounds.Given as goal

abbrev pub decreases-same_bound : goal.decreases-same_bound
decreases-same_bound l = weight (pure_node l.a.now)

abbrev pub decreases-same_sums : goal.decreases-same_sums
decreases-same_sums l = 2 + weights (pure_nodes l.operands.now)

abbrev pub decreases-same_plus : goal.decreases-same_plus
decreases-same_plus l = 1 + weights (pure_nodes l.operands.now)

abbrev pub decreases-same_minus : goal.decreases-same_minus
decreases-same_minus l = 1 + weights (pure_nodes l.operands.now)
