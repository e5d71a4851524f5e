use Rattle.std.proofs.Common.{◌≡◌, map}
use Rattle.ess_translate_plans.specs.Views.{pure_plan}
use Rattle.ess_translate_given.specs.KeptCounts.{first_kept_above}
use Rattle.ess_translate_given.proofs.KeptLoops.{above_left}
use Rattle.ess_translate_given.proofs.counts.first_above.Given as goal

abbrev pub invariant-loop-i : goal.invariant-loop-i
invariant-loop-i l = above_left l.plans l.counts l.i ≡ first_kept_above (map pure_plan l.plans) l.counts
