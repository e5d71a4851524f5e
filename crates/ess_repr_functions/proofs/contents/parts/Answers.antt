use Rattle.std.proofs.Common.{map, option_map}
use Rattle.std.proofs.lemmas.Result.{IfOk-weaker}
use Rattle.ess_core.specs.ValueViews.{pure_val}
use Rattle.ess_repr_functions.proofs.FunctionLayers.{parts_over}
use Rattle.ess_repr_functions.proofs.contents.parts.Goals as goal

pub returns-in-Function : goal.returns-in-Function
returns-in-Function c =
    IfOk-weaker c.parts_from.result _ _
    (λ o e. parts_over c.args.kind c.args.domain.now _ c.get.result.now _ _ c.in-Function.is c.get.ensures (pure_val c.args.value.now)
    (option_map (map pure_val) o) e)
    c.parts_from.ensures
