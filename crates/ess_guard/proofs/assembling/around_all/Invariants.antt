use Rattle.std.proofs.Common.{◌≡◌, map, length}
use Rattle.ess_core_nodes.specs.NodeViews.{pure_node}
use Rattle.ess_guard.specs.Steps.{around_all}
use Rattle.ess_guard.specs.StepViews.{pure_step}
use Rattle.ess_guard.proofs.assembling.around_all.Given as goal

abbrev pub invariant-loop-step : goal.invariant-loop-step
invariant-loop-step l = around_all (map pure_step l.steps) (map pure_node l.conditions)
    ≡ around_all (map pure_step l.fn.steps) (map pure_node l.fn.behind)

abbrev pub decreases-loop-step : goal.decreases-loop-step
decreases-loop-step l = length l.steps
