use Rattle.eprime_eval_scalars.proofs.ComparedLists.{lists_over}
use Rattle.eprime_eval_scalars.proofs.comparing.order_lists.Goals as goal

pub returns-then-i-b : goal.returns-then-i-b
returns-then-i-b c = lists_over c.args.a.now c.args.b.now c.loop-i.i _ c.loop-i-test.true c.if-i-b.true c.loop-i.invariant
