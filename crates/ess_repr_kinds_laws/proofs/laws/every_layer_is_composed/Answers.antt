use Rattle.std.proofs.Common.{[]}
use Rattle.ess_repr_kinds_laws.proofs.laws.every_layer_is_composed.Goals as goal
use Rattle.ess_repr_layers_laws.proofs.ComponentsDown.{tuple-down, record-down}
use Rattle.ess_repr_layers_laws.proofs.ComponentsUp.{tuple-up, record-up}
use Rattle.ess_repr_layers_laws.proofs.LayerDown.{alone-down}
use Rattle.ess_repr_layers_laws.proofs.LayerUp.{alone-up}

pub returns : goal.returns
returns c = record {
  alone_down = λ k e v. alone-down k e v [];
  alone_up = alone-up;
  tuple_down = tuple-down;
  tuple_up = tuple-up;
  record_down = record-down;
  record_up = record-up;
}
