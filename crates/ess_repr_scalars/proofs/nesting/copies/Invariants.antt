use Rattle.std.proofs.Common.{◌≡◌, take}
use Rattle.ess_repr_scalars.proofs.nesting.copies.Given as goal

abbrev pub invariant-loop-val : goal.invariant-loop-val
invariant-loop-val l = l.copies ≡ take l.val-index l.vals
