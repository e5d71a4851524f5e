use Rattle.std.proofs.Common.{map}
use Rattle.ess_core.specs.TableViews.{pure_named_table}
use Rattle.ess_translate_values.proofs.StoodLoops.{stood_more}
use Rattle.ess_translate_values.proofs.stood.values_by.Goals as goal

pub loop-name-preserved : goal.loop-name-preserved
loop-name-preserved c =
    stood_more c.args.plans.now c.args.closed.now (map pure_named_table c.args.cells.now) c.args.finds.now c.loop-name.name-index
    c.name-item.result _ c.loop-name.all c.push.new.self c.in_ok-value.value c.in_ok-stood.field-0 c.loop-name-test.true c.name-item.is
    c.in_ok-value.ensures c.in_ok-stood.ensures c.in_ok-push.ensures.ok c.loop-name.invariant
