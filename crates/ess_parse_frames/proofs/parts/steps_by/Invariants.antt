use Rattle.std.proofs.Common.{◌≡◌, map}
use Rattle.ess_core.specs.TreeViews.{pure_step}
use Rattle.ess_parse_frames.specs.Steps.{step_by}
use Rattle.ess_parse_frames.proofs.parts.steps_by.Given as goal

abbrev pub invariant-loop-value : goal.invariant-loop-value
invariant-loop-value l = map pure_step l.steps ≡ map step_by l.yielded
