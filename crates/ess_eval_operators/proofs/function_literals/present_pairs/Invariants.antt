use Rattle.std.proofs.Common.{◌≡◌, map, take, Some}
use Rattle.ess_eval_operators.proofs.function_literals.present_pairs.Given as goal

abbrev pub invariant-loop-pair : goal.invariant-loop-pair
invariant-loop-pair l = map Some l.copies ≡ take l.pair-index l.pairs
