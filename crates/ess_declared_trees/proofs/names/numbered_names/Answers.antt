use Rattle.std.proofs.Common.{arith}
use Rattle.ess_declared_trees.specs.Endings.{numbered}
use Rattle.ess_declared_trees.proofs.EndingLaws.{one_more_numbered}
use Rattle.ess_declared_trees.proofs.names.numbered_names.Goals as goal

pub loop-i-preserved : goal.loop-i-preserved
loop-i-preserved c = (
  omega (arith, c.loop-i-test.true),
  one_more_numbered c.loop-i.i c.args.count c.loop-i.names c.push.new.self (numbered c.args.count) c.in_ok-number_name.field-0
      c.loop-i-test.true c.in_ok-number_name.ensures c.in_ok-push.ensures.ok c.loop-i.invariant.1,
)
