use Rattle.eprime_read_laws.proofs.laws.machine_stops_for_good.Goals as goal
use Rattle.eprime_read_laws.proofs.Stops.{no-model}

pub returns : goal.returns
returns c = no-model
