use Rattle.ess_repr_tables.specs.SlotViews.{pure_slots}
use Rattle.ess_repr_tables.proofs.StackedTables.{stacked-push}
use Rattle.ess_repr_tables.proofs.stacking.stacked.Goals as goal

pub loop-number-preserved : goal.loop-number-preserved
loop-number-preserved c =
    stacked-push c.args.layer_axes.now c.args.axes.now (pure_slots c.args.slots.now) c.loop-number.number c.index-axes-number.result c.in_ok-stacked_table.field-0 c.loop-number.tables c.push.new.self
    c.loop-number-test.true c.index-axes-number.is c.loop-number.invariant c.in_ok-stacked_table.ensures c.in_ok-push.ensures.ok
