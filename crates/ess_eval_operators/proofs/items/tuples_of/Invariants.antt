use Rattle.std.proofs.Common.{◌≡◌, map, take}
use Rattle.ess_core.specs.ValueViews.{pure_val, pure_pair}
use Rattle.ess_eval_operators.proofs.items.tuples_of.Given as goal

abbrev pub invariant-loop-pair : goal.invariant-loop-pair
invariant-loop-pair l = map pure_val l.tuples ≡ map pure_pair (take l.pair-index l.pairs)
