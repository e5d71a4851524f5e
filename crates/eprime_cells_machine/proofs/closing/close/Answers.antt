use Rattle.std.proofs.Common.{◌∙◌}
use Rattle.eprime_cells_machine.specs.ValueViews.{pure_lettings}
use Rattle.eprime_cells_machine.proofs.StateSteps.{closed_last}
use Rattle.eprime_cells_machine.proofs.closing.close.Goals as goal

pub returns : goal.returns
returns c =
    closed_last (pure_lettings c.args.begun.done) c.args.begun.name c.args.begun.lists c.pop.new.self c.in-Some.items c.args.ranges c.in_ok-list.list
    (cc (c.in-Some.ensures)) c.in_ok-list.ensures
    ∙ c.in_ok-with_value.ensures
