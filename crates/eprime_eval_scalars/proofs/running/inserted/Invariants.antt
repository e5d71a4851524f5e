use Rattle.std.proofs.Common.{◌≡◌, ◌++◌, map, drop}
use Rattle.eprime_eval_scalars.specs.Runs.{pure_run, insert_run}
use Rattle.eprime_eval_scalars.proofs.Runs.{left_over}
use Rattle.eprime_eval_scalars.proofs.running.inserted.Given as goal

abbrev pub invariant-loop-run : goal.invariant-loop-run
invariant-loop-run l =
    map pure_run l.found ++ left_over l.placed (pure_run l.range) (map pure_run (drop l.run-index l.runs))
    ≡ insert_run (pure_run l.initial.range) (map pure_run l.runs)
