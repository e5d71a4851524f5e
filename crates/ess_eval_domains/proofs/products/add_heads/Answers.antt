use Rattle.ess_eval_domains.proofs.ListProducts.{heads_more}
use Rattle.ess_eval_domains.proofs.products.add_heads.Goals as goal

pub loop-head-preserved : goal.loop-head-preserved
loop-head-preserved c = heads_more _ _ _ _ _ _ c.loop-head-test.true c.head-item.is c.loop-head.invariant c.in_ok-add_head.ensures
