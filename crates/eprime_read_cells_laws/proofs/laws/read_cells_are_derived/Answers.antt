use Rattle.eprime_read_cells_laws.proofs.laws.read_cells_are_derived.Goals as goal
use Rattle.eprime_read_cells_laws.proofs.Sound.{cells-sound}

pub returns : goal.returns
returns c = cells-sound
