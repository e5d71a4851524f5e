use Rattle.std.proofs.Common.{sym, ap, ◌∙◌, option_map}
use Rattle.std.specs.Option.{option_copied}
use Rattle.eprime_cells_machine.specs.ValueViews.{pure_value, pure_lettings}
use Rattle.eprime_cells_judging.proofs.TableAnswers.{table_found}
use Rattle.eprime_cells_judging.proofs.judging.table.Goals as goal

pub returns-in-Some : goal.returns-in-Some
returns-in-Some c =
    table_found c.args.known.now c.args.givens.now c.args.decl.now (pure_lettings c.args.lettings.now) (pure_value c.in-Some.value.now) c.table_of.result
    (sym c.value_of.ensures ∙ ap (λ o. option_map pure_value (option_copied o)) c.in-Some.is) c.table_of.ensures
