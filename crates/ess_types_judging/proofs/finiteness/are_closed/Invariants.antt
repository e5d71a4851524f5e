use Rattle.std.proofs.Common.{◌≡◌, drop}
use Rattle.ess_types_judging.proofs.RangeLemmas.{closed}
use Rattle.ess_types_judging.proofs.finiteness.are_closed.Given as goal

abbrev pub invariant-loop-i : goal.invariant-loop-i
invariant-loop-i l = closed l.ranges ≡ closed (drop l.i l.ranges)
