use Rattle.std.proofs.Common.{◌≡◌, ap, ◌∙◌, ◌+◌, map, drop, ◌+ℤ◌, arith, w64}
use mir.Syntax.{w128}
use mir.Val.{to_z, of_z}
use Rattle.std.proofs.lemmas.Int.{ints}
use Rattle.ess_semantics.specs.Operators.{sum_of}
use Rattle.ess_core.specs.ValueViews.{pure_val}
use Rattle.ess_eval_operators.proofs.Sums.{sum_step}
use Rattle.ess_eval_operators.proofs.folds.total.Goals as goal

pub loop-item-preserved : goal.loop-item-preserved
loop-item-preserved c =
    let next = to_z w128 (of_z w128 (to_z w128 c.loop-item.total-bits +ℤ to_z w128 (of_z w128 (to_z w64 (of_z w64 c.number_in.result))))) in
    let is : next ≡ to_z w128 c.loop-item.total-bits +ℤ c.number_in.result = omega (arith, ints) in
    record {
      summed = ap (λ t. t +ℤ sum_of (map pure_val (drop (c.loop-item.item-index + 1) c.args.items.now))) is
          ∙ sum_step c.args.items.now c.loop-item.item-index c.item-item.result (to_z w128 c.loop-item.total-bits)
          c.number_in.result _ c.loop-item-test.true c.item-item.is c.number_in.ensures c.loop-item.invariant.summed;
      low = omega (arith, ints);
      high = omega (arith, ints);
    }
