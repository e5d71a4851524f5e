use Rattle.eprime_cells_machine.specs.ValueViews.{pure_lettings}
use Rattle.eprime_cells_machine.proofs.StateSteps.{item_put}
use Rattle.eprime_cells_machine.proofs.closing.with_value.Goals as goal

pub returns-in_ok-push-in-Some-2 : goal.returns-in_ok-push-in-Some-2
returns-in_ok-push-in-Some-2 c =
    item_put (pure_lettings c.args.begun.done) c.args.begun.name c.args.begun.lists c.pop.new.self c.push-in-Some.new.self c.in-Some.items c.push.new.self c.args.value
    (cc (c.in-Some.ensures)) (cc (c.in_ok-push-in-Some.ensures.ok)) (cc (c.in_ok-push-in-Some-2.ensures.ok))
