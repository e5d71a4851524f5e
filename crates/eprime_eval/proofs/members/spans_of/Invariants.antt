use Rattle.std.proofs.Common.{◌≡◌, map, take}
use Rattle.ess_eval_domains.specs.ClosedViews.{pure_span}
use Rattle.eprime_eval_scalars.specs.Runs.{pure_run}
use Rattle.eprime_eval.proofs.members.spans_of.Given as goal

abbrev pub invariant-loop-run : goal.invariant-loop-run
invariant-loop-run l = map pure_span l.spans ≡ map pure_run (take l.run-index l.runs)
