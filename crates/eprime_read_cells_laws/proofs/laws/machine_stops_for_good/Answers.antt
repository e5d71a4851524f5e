use Rattle.eprime_read_cells_laws.proofs.laws.machine_stops_for_good.Goals as goal
use Rattle.eprime_read_cells_laws.proofs.Stops.{no-cells}

pub returns : goal.returns
returns c = no-cells
