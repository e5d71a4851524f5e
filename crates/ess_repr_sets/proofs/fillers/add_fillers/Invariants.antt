use Rattle.std.proofs.Common.{◌≡◌, ◌++◌, replicate}
use Rattle.ess_repr_sets.proofs.fillers.add_fillers.Given as goal

abbrev pub invariant-loop-k : goal.invariant-loop-k
invariant-loop-k l = l.items ≡ l.initial.items ++ replicate l.k l.filler
