use Rattle.eprime_read_cells_laws.proofs.laws.tokens_are_one_text_of_cells.Goals as goal
use Rattle.eprime_read_cells_laws.proofs.Complete.{one-reading}

pub returns : goal.returns
returns c = one-reading
