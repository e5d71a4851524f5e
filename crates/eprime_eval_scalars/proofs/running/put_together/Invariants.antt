use Rattle.std.proofs.Common.{◌≡◌, [], map, drop}
use Rattle.eprime_eval_scalars.specs.Runs.{pure_run, runs_with}
use Rattle.eprime_eval_scalars.proofs.running.put_together.Given as goal

abbrev pub invariant-loop-range : goal.invariant-loop-range
invariant-loop-range l = runs_with (map pure_run l.runs) (map pure_run (drop l.range-index l.ranges)) ≡ runs_with [] (map pure_run l.ranges)
