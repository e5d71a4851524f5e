use Rattle.eprime_read_cells_laws.proofs.laws.derived_cells_are_read.Goals as goal
use Rattle.eprime_read_cells_laws.proofs.Complete.{cells-complete}

pub returns : goal.returns
returns c = cells-complete
