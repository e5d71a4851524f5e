use Rattle.ess_translate_plans.specs.Views.{pure_side}
use Rattle.ess_translate_members.proofs.PlansInOrder.{plans_short, plans_all}
use Rattle.ess_translate_members.proofs.sides.are_declared.Goals as goal

pub returns-then-place-closed : goal.returns-then-place-closed
returns-then-place-closed c =
    plans_short (pure_side c.args.side) c.args.plans.now c.args.closed.now c.loop-place.place c.args.tables.now c.loop-place.left.now
    c.is_empty.result
    c.if-place-closed.true c.loop-place.invariant c.is_empty.ensures

pub returns : goal.returns
returns c =
    plans_all (pure_side c.args.side) c.args.plans.now c.args.closed.now c.loop-place.place c.args.tables.now c.loop-place.left.now
    c.is_empty-2.result
    c.loop-place-test.false c.loop-place.invariant c.is_empty-2.ensures
