use Rattle.eprime_eval_scalars.proofs.Extremes.{greatest_loop}
use Rattle.eprime_eval_scalars.proofs.folding.greatest.Goals as goal

pub loop-k-preserved : goal.loop-k-preserved
loop-k-preserved c = greatest_loop c.args.items.now c.loop-k.k _ _ _ c.loop-k-test.true c.loop-k.invariant c.higher.ensures
