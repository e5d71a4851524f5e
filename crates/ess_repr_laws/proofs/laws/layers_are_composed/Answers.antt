use Rattle.ess_repr_laws.proofs.laws.layers_are_composed.Goals as goal
use Rattle.ess_repr_laws.proofs.RoomBelow.{room-below}
use Rattle.ess_repr_laws.proofs.LayersDown.{layer-down}
use Rattle.ess_repr_laws.proofs.LayersUp.{layer-up}

pub returns : goal.returns
returns c = record { room = room-below; down = layer-down; up = layer-up }
