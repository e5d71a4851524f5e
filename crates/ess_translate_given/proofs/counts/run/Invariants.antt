use Rattle.std.proofs.Common.{◌≡◌, map}
use Rattle.ess_translate_plans.specs.Views.{pure_plan}
use Rattle.ess_translate_given.specs.KeptCounts.{run_from}
use Rattle.ess_translate_given.proofs.KeptLoops.{run_left}
use Rattle.ess_translate_given.proofs.counts.run.Given as goal

abbrev pub invariant-loop-i : goal.invariant-loop-i
invariant-loop-i l = run_left l.name l.total l.plans l.counts l.i ≡ run_from l.name l.first (map pure_plan l.plans) l.counts
