use Rattle.std.proofs.Common.{◌≡◌, ◌++◌, map}
use Rattle.ess_translate_plans.specs.Views.{pure_plan}
use Rattle.ess_translate_given.specs.KeptCounts.{counts_of}
use Rattle.ess_translate_given.proofs.KeptLoops.{domains_in, counts_left}
use Rattle.ess_translate_given.proofs.counts.counts_in.Given as goal

abbrev pub invariant-loop-i : goal.invariant-loop-i
invariant-loop-i l = l.counts ++ counts_left l.plans l.closed l.i ≡ counts_of (map pure_plan l.plans) (domains_in l.closed)
