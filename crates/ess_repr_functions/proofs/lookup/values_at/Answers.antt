use Rattle.std.proofs.Common.{map}
use Rattle.ess_semantics.specs.Collections.{value_at}
use Rattle.ess_core.specs.ValueViews.{pure_val}
use Rattle.ess_repr_functions.proofs.ArgumentLoops.{values_more}
use Rattle.ess_repr_functions.proofs.lookup.values_at.Goals as goal

pub loop-argument-preserved : goal.loop-argument-preserved
loop-argument-preserved c =
    values_more (value_at (map pure_val c.args.items.now)) c.args.arguments.now c.loop-argument.argument-index c.argument-item.result
    (map pure_val c.loop-argument.values)
    (map pure_val c.add_value.new.values) c.loop-argument-test.true c.argument-item.is c.loop-argument.invariant c.in_ok-add_value.ensures
