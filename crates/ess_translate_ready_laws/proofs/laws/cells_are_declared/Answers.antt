use Rattle.ess_translate_ready_laws.proofs.laws.cells_are_declared.Goals as goal
use Rattle.ess_translate_ready_laws.proofs.FittingCells.{cells-are-declared}

pub returns : goal.returns
returns c = cells-are-declared
