use Rattle.std.proofs.Common.{◌≡◌, pos, replicate}
use Rattle.ess_repr_closed.proofs.axes.zeros.Given as goal

abbrev pub invariant-loop-k : goal.invariant-loop-k
invariant-loop-k l = l.zeros ≡ replicate l.k (pos 0)
