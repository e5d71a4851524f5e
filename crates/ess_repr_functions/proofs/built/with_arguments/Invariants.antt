use Rattle.ess_repr_functions.proofs.PairsOfValues.{Left}
use Rattle.ess_repr_functions.proofs.built.with_arguments.Given as goal

abbrev pub invariant-loop-i : goal.invariant-loop-i
invariant-loop-i l = Left l.arguments l.vals l.pairs l.i
