use Rattle.std.proofs.Common.{◌≡◌, drop}
use Rattle.ess_repr.proofs.Ranges.{closed}
use Rattle.ess_repr.proofs.atoms.are_closed.Given as goal

abbrev pub invariant-loop-i : goal.invariant-loop-i
invariant-loop-i l = closed l.ranges ≡ closed (drop l.i l.ranges)
