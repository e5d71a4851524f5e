use Rattle.std.proofs.Common.{◌≡◌, map, drop}
use Rattle.ess_eval_operators.specs.Products.{has_zero}
use Rattle.ess_core.specs.ValueViews.{pure_val}
use Rattle.ess_eval_operators.proofs.folds.any_zero.Given as goal

abbrev pub invariant-loop-item : goal.invariant-loop-item
invariant-loop-item l = has_zero (map pure_val l.items) ≡ has_zero (map pure_val (drop l.item-index l.items))
