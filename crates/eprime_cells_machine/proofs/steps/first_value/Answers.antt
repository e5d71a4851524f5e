use Rattle.std.proofs.Common.{◌≡◌, subst, IfOk}
use Rattle.std.specs.Option.{option_map}
use Rattle.ess_semantics.specs.Values.{Text}
use Rattle.ess_grammar.specs.Kinds.{token}
use Rattle.eprime_read_cells_laws.specs.CellMachine.{step_value_wanted}
use Rattle.eprime_cells_machine.specs.ValueViews.{pure_lettings}
use Rattle.eprime_cells_machine.specs.MachineViews.{view_lists, view_state}
use Rattle.eprime_cells_machine.proofs.steps.first_value.Goals as goal

pub returns : goal.returns
returns c =
    let o = c.in_ok-with_list.field-0 in
    subst (λ fs. IfOk c.value_wanted.result (λ next. (bytes : Text) → step_value_wanted (token c.args.kind bytes) (pure_lettings c.args.begun.done) c.args.begun.name fs ≡ option_map view_state next)) c.in_ok-with_list.ensures.lists
    (subst (λ a. IfOk c.value_wanted.result (λ next. (bytes : Text) → step_value_wanted (token c.args.kind bytes) (pure_lettings c.args.begun.done) a (view_lists o.lists) ≡ option_map view_state next)) c.in_ok-with_list.ensures.name
    (subst (λ ds. IfOk c.value_wanted.result (λ next. (bytes : Text) → step_value_wanted (token c.args.kind bytes) (pure_lettings ds) o.name (view_lists o.lists) ≡ option_map view_state next)) c.in_ok-with_list.ensures.done c.value_wanted.ensures))
