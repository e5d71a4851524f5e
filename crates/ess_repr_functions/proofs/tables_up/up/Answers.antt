use Rattle.std.proofs.Common.{map, option_map}
use Rattle.std.proofs.lemmas.Result.{IfOk-weaker}
use Rattle.ess_core.specs.ValueViews.{pure_val}
use Rattle.ess_repr_tables.specs.SlotViews.{pure_tables}
use Rattle.ess_repr_functions.proofs.FunctionLayers.{value_over}
use Rattle.ess_repr_functions.proofs.tables_up.up.Goals as goal

pub returns-in-Function : goal.returns-in-Function
returns-in-Function c =
    IfOk-weaker c.value_from.result _ _
    (λ o e rs h p. value_over c.args.kind c.args.domain.now _ c.get.result.now _ _ c.in-Function.is c.get.ensures
    (pure_tables c.args.tables.now) (map pure_val c.args.vals) (option_map pure_val o) rs e h p)
    c.value_from.ensures
