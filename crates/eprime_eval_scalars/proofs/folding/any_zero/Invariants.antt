use Rattle.std.proofs.Common.{◌≡◌, map, drop}
use Rattle.eprime_eval_scalars.specs.Folds.{has_zero}
use Rattle.eprime_eval_scalars.specs.ScalarViews.{pure_scalar}
use Rattle.eprime_eval_scalars.proofs.folding.any_zero.Given as goal

abbrev pub invariant-loop-item : goal.invariant-loop-item
invariant-loop-item l = has_zero (map pure_scalar l.items) ≡ has_zero (map pure_scalar (drop l.item-index l.items))
