use Rattle.std.proofs.Common.{◌≡◌, ◌++◌, replicate}
use Rattle.ess_repr_sets.proofs.repeats.add_copies.Given as goal

abbrev pub invariant-loop-k : goal.invariant-loop-k
invariant-loop-k l = l.row ≡ l.initial.row ++ replicate l.k l.val
