use Rattle.eprime_read_cells_laws.proofs.laws.whole_texts_stand_before_lettings.Goals as goal
use Rattle.eprime_read_cells_laws.proofs.Stops.{whole-before}

pub returns : goal.returns
returns c = whole-before
