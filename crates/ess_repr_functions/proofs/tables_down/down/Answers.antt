use Rattle.std.proofs.Common.{map, option_map}
use Rattle.std.proofs.lemmas.Result.{IfOk-weaker}
use Rattle.ess_core.specs.ValueViews.{pure_val}
use Rattle.ess_core.specs.TableViews.{pure_table}
use Rattle.ess_repr_tables.specs.SlotViews.{pure_tables}
use Rattle.ess_repr_functions.proofs.FunctionLayers.{tables_over}
use Rattle.ess_repr_functions.proofs.tables_down.down.Goals as goal

pub returns-in-Function : goal.returns-in-Function
returns-in-Function c =
    IfOk-weaker c.tables_from.result _ _
    (λ o e rs h p. tables_over c.args.kind c.args.domain.now _ c.get.result.now _ _ c.in-Function.is c.get.ensures
    (pure_val c.args.value.now) c.args.axes.now (map pure_tables c.args.inner) (option_map (map pure_table) o) rs e h p)
    c.tables_from.ensures
