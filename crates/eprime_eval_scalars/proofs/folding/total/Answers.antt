use Rattle.std.proofs.Common.{◌≡◌, ap, ◌∙◌, ◌+◌, map, drop, ◌+ℤ◌, arith, w64}
use mir.Syntax.{w128}
use mir.Val.{to_z, of_z}
use Rattle.std.proofs.lemmas.Int.{ints}
use Rattle.ess_semantics.specs.Operators.{sum_of}
use Rattle.eprime_eval_scalars.specs.ScalarViews.{pure_scalar}
use Rattle.eprime_eval_scalars.proofs.Sums.{sum_step_at}
use Rattle.eprime_eval_scalars.proofs.folding.total.Goals as goal

pub loop-item-preserved : goal.loop-item-preserved
loop-item-preserved c =
    let next = to_z w128 (of_z w128 (to_z w128 c.loop-item.total-bits +ℤ to_z w128 (of_z w128 (to_z w64 (of_z w64 c.number_at.result))))) in
    let is : next ≡ to_z w128 c.loop-item.total-bits +ℤ c.number_at.result = omega (arith, ints) in
    record {
      summed = ap (λ t. t +ℤ sum_of (map pure_scalar (drop (c.loop-item.item-index + 1) c.args.items.now))) is
          ∙ sum_step_at c.args.items.now c.loop-item.item-index _ (to_z w128 c.loop-item.total-bits)
          c.number_at.result _ c.loop-item-test.true c.number_at.ensures c.loop-item.invariant.summed;
      low = omega (arith, ints);
      high = omega (arith, ints);
    }
