use Rattle.std.proofs.Common.{◌≡◌, replicate, pos}
use Rattle.ess_repr_slots.proofs.parts.ones.Given as goal

abbrev pub invariant-loop-k : goal.invariant-loop-k
invariant-loop-k l = l.ones ≡ replicate l.k (pos 1)
