use Rattle.std.proofs.Common.{◌≡◌, ◌-◌, map, drop, length, false}
use Rattle.ess_semantics.specs.Operators.{product_of}
use Rattle.ess_eval_operators.specs.Products.{has_zero}
use Rattle.ess_core.specs.ValueViews.{pure_val}
use Rattle.ess_eval_operators.proofs.folds.product.Given as goal

abbrev pub invariant-loop-k : goal.invariant-loop-k
invariant-loop-k l = record {
  built : l.product ≡ product_of (map pure_val (drop (length l.items - l.k) l.items));
  none : has_zero (map pure_val l.items) ≡ false;
}
