use Rattle.std.proofs.Common.{◌≡◌, not, drop}
use Rattle.ess_semantics.specs.Simplified.{is_truth_value, each_operand}
use Rattle.ess_core_nodes.specs.NodeViews.{pure_nodes}
use Rattle.ess_node_forms.proofs.simple.are_no_truths.Given as goal

abbrev pub invariant-loop-node : goal.invariant-loop-node
invariant-loop-node l =
    each_operand (λ e. not (is_truth_value e)) (pure_nodes l.nodes)
    ≡ each_operand (λ e. not (is_truth_value e)) (pure_nodes (drop l.node-index l.nodes))
