use Rattle.std.proofs.Common.{arith}
use Rattle.ess_values.proofs.IndexLemmas.{items_step}
use Rattle.ess_values.proofs.literals.index.items.Goals as goal

pub loop-k-preserved : goal.loop-k-preserved
loop-k-preserved c = items_step c.args.name.now c.loop-k.k c.loop-k.items c.push.new.self _ _ c.loop-k.invariant c.in_ok-push.ensures.ok c.in_ok-copy.ensures (omega arith)
