use Rattle.std.proofs.Common.{◌∙◌, sym, arith}
use Rattle.ess_core.specs.ValueViews.{pure_val}
use Rattle.ess_eval_operators.proofs.Steps.{next_item}
use Rattle.ess_eval_operators.proofs.indices.item_at.Goals as goal

pub loop-i-preserved : goal.loop-i-preserved
loop-i-preserved c =
    c.loop-i.invariant ∙ next_item c.args.index.now c.args.items.now c.loop-i.i c.index-index-i.result (pure_val c.args.at.now)
    (omega arith) (omega arith) c.index-index-i.is
    (sym c.same.ensures ∙ c.if-same.false)
