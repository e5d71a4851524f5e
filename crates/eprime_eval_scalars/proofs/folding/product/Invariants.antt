use Rattle.std.proofs.Common.{◌≡◌, ◌-◌, map, drop, length, false}
use Rattle.ess_semantics.specs.Operators.{product_of}
use Rattle.eprime_eval_scalars.specs.Folds.{has_zero}
use Rattle.eprime_eval_scalars.specs.ScalarViews.{pure_scalar}
use Rattle.eprime_eval_scalars.proofs.folding.product.Given as goal

abbrev pub invariant-loop-k : goal.invariant-loop-k
invariant-loop-k l = record {
  built : l.product ≡ product_of (map pure_scalar (drop (length l.items - l.k) l.items));
  none : has_zero (map pure_scalar l.items) ≡ false;
}
