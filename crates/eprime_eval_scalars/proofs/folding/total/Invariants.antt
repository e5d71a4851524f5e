use Rattle.std.proofs.Common.{◌≡◌, ◌*◌, map, drop, pos, ◌+ℤ◌, ◌≤ℤ◌, neg_ℤ}
use Rattle.ess_semantics.specs.Operators.{sum_of}
use Rattle.eprime_eval_scalars.specs.ScalarViews.{pure_scalar}
use Rattle.eprime_eval_scalars.proofs.folding.total.Given as goal

abbrev pub invariant-loop-item : goal.invariant-loop-item
invariant-loop-item l = record {
  summed : l.total +ℤ sum_of (map pure_scalar (drop l.item-index l.items)) ≡ sum_of (map pure_scalar l.items);
  low : neg_ℤ (pos (l.item-index * 9223372036854775808)) ≤ℤ l.total;
  high : l.total ≤ℤ pos (l.item-index * 9223372036854775808);
}
