use Rattle.std.proofs.Common.{refl}
use Rattle.eprime_cells_laws.specs.CellsText.{cells_text}
use Rattle.eprime_cells_laws.proofs.WholeText.{tables-read}
use Rattle.eprime_cells_laws.proofs.laws.printed_tables_are_read.Goals as goal

pub returns : goal.returns
returns c known q ds cs h p = tables-read known q ds cs (cells_text ds cs) h p refl
