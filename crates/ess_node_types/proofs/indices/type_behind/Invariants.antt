use Rattle.std.proofs.Common.{◌≡◌, drop}
use Rattle.ess_core.specs.TypeViews.{pure_ty}
use Rattle.ess_node_types.specs.StepsTaken.{path_from}
use Rattle.ess_node_types.proofs.indices.type_behind.Given as goal

abbrev pub invariant-loop-step : goal.invariant-loop-step
invariant-loop-step l =
    path_from (pure_ty l.reached) (drop l.step-index l.steps) l.rest l.rest_tys ≡ path_from (pure_ty l.place) l.steps l.values l.tys
