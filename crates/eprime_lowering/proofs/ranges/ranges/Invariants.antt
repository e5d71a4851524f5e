use Rattle.std.proofs.Common.{drop}
use Rattle.eprime_lowering.specs.Ranges.{ranges_of}
use Rattle.eprime_lowering.proofs.RangeLoops.{RangesLeft}
use Rattle.eprime_lowering.proofs.ranges.ranges.Given as goal

abbrev pub invariant-loop-end : goal.invariant-loop-end
invariant-loop-end l = RangesLeft l.ranges (drop l.end-index l.ends) l.left (ranges_of l.ends l.fn.bounds)
