use Rattle.eprime_cells_machine.specs.ValueViews.{pure_lettings}
use Rattle.eprime_cells_machine.specs.MachineViews.{view_lists}
use Rattle.eprime_cells_machine.proofs.StateSteps.{first_answer}
use Rattle.eprime_cells_machine.proofs.steps.first_wanted.Goals as goal

pub returns-in_default : goal.returns-in_default
returns-in_default c =
    first_answer c.first_value.result c.args.kind c.args.begun.name (pure_lettings c.args.begun.done) (view_lists c.args.begun.lists) c.in_default.not-CloseSquare c.first_value.ensures
