use Rattle.std.proofs.Common.{◌≡◌, take}
use Rattle.ess_rules_picked.proofs.paths.copy_steps.Given as goal

abbrev pub invariant-loop-step : goal.invariant-loop-step
invariant-loop-step l = l.copies ≡ take l.step-index l.steps
