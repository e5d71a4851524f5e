use Rattle.std.proofs.Common.{ap, ◌∙◌, [], ◌∷◌, map}
use Rattle.eprime_cells_machine.specs.ValueViews.{pure_value}
use Rattle.eprime_cells_machine.specs.MachineViews.{view_lists}
use Rattle.eprime_cells_machine.proofs.StateSteps.{lists_push}
use Rattle.eprime_cells_machine.proofs.steps.with_list.Goals as goal

pub returns-clause-lists : goal.returns-clause-lists
returns-clause-lists c =
    ap view_lists (c.in_ok-push.ensures.ok) ∙ lists_push c.args.begun.lists c.new.result [] ∙ ap (λ l. map pure_value l ∷ view_lists c.args.begun.lists) c.new.ensures
