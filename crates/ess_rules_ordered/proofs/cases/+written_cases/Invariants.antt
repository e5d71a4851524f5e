use Rattle.ess_core_nodes.specs.NodeViews.{pure_node}
use Rattle.ess_guard_forms.proofs.Weights.{weight}
use Rattle.ess_rules_ordered.proofs.cases.+written_cases.Given as goal

abbrev pub decreases-written_cases : goal.decreases-written_cases
decreases-written_cases l = weight (pure_node l.node.now)
