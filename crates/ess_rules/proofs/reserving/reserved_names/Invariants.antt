use Rattle.std.proofs.Common.{◌≡◌}
use Rattle.ess_rules.specs.Ruled.{reserved_from}
use Rattle.ess_rules.proofs.reserving.reserved_names.Given as goal

abbrev pub invariant-loop-step : goal.invariant-loop-step
invariant-loop-step l = l.names ≡ reserved_from l.first l.step
