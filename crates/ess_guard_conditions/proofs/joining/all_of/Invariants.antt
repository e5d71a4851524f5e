use Rattle.std.proofs.Common.{◌≡◌, map, length}
use Rattle.ess_core_nodes.specs.NodeViews.{pure_node}
use Rattle.ess_guard_laws.specs.Conditions.{all_of}
use Rattle.ess_guard_conditions.specs.ConditionForms.{under_each}
use Rattle.ess_guard_conditions.proofs.joining.all_of.Given as goal

abbrev pub invariant-loop-condition : goal.invariant-loop-condition
invariant-loop-condition l = under_each (map pure_node l.conditions) (pure_node l.all) ≡ all_of (map pure_node l.fn.conditions)

abbrev pub decreases-loop-condition : goal.decreases-loop-condition
decreases-loop-condition l = length l.conditions
