use Rattle.std.proofs.Common.{◌≡◌, take, filter, nat_le}
use Rattle.ess_repr_sets.proofs.repeats.above_zero.Given as goal

abbrev pub invariant-loop-number : goal.invariant-loop-number
invariant-loop-number l = l.used ≡ filter (λ n. nat_le 1 n) (take l.number-index l.times)
