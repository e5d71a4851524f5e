use Rattle.std.proofs.Common.{◌≡◌, map, drop}
use Rattle.std.specs.List.{list_any}
use Rattle.ess_semantics.specs.Membership.{in_span}
use Rattle.eprime_eval_scalars.specs.Runs.{pure_run}
use Rattle.eprime_eval_scalars.proofs.running.is_in_some.Given as goal

abbrev pub invariant-loop-range : goal.invariant-loop-range
invariant-loop-range l = list_any (in_span l.number) (map pure_run l.ranges) ≡ list_any (in_span l.number) (map pure_run (drop l.range-index l.ranges))
