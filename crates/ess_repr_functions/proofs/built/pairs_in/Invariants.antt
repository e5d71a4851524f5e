use Rattle.std.proofs.Common.{◌≡◌, map, take}
use Rattle.ess_core.specs.ValueViews.{pure_val, pure_pair}
use Rattle.ess_repr_functions.proofs.built.pairs_in.Given as goal

abbrev pub invariant-loop-tuple : goal.invariant-loop-tuple
invariant-loop-tuple l = map pure_pair l.pairs ≡ map pure_val (take l.tuple-index l.tuples)
