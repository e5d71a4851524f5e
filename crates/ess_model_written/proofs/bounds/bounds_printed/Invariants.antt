use Rattle.std.proofs.Common.{take}
use Rattle.ess_model_written.proofs.BoundSteps.{EachOf}
use Rattle.ess_model_written.proofs.bounds.bounds_printed.Given as goal

abbrev pub invariant-loop-bound : goal.invariant-loop-bound
invariant-loop-bound l = EachOf l.taken l.number (take l.bound-index l.bounds) l.printed
