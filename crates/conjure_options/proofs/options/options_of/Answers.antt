use Rattle.std.proofs.Common.{ap, ◌∙◌}
use Rattle.conjure_options.specs.Pieces.{pieces}
use Rattle.conjure_options.proofs.ListLaws.{texts, items_refused, items_all}
use Rattle.conjure_options.proofs.OptionsFit.{items_fit}
use Rattle.conjure_options.proofs.options.options_of.Goals as goal

-- src/options.rt
pub returns-in-None-clause-refused : goal.returns-in-None-clause-refused
returns-in-None-clause-refused c =
    items_refused _ (pieces 47 c.args.list.now) c.deref-item-items.result.now c.loop-i.i _ c.loop-i.done c.in_ok-named.field-0
    (ap texts c.deref-item-items.ensures.value ∙ c.in_ok-items.ensures)
    c.loop-i-test.true c.loop-i.invariant c.in-None.is (rw c.as_slice.ensures at c.in_ok-named.ensures)

pub returns-clause-fitting : goal.returns-clause-fitting
returns-clause-fitting c =
    items_fit _ (pieces 47 c.args.list.now) _
    (items_all _ (pieces 47 c.args.list.now) c.deref-item-items.result.now c.loop-i.i c.loop-i.done
    (ap texts c.deref-item-items.ensures.value ∙ c.in_ok-items.ensures) c.loop-i-test.false c.loop-i.invariant)
