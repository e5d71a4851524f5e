-- The refusals of texts of cells as refusals of a translation.
use Rattle.eprime_read_cells.specs.declared.cells.CellsNo.{CellsNo}
use Rattle.eprime_verdicts.specs.declared.satisfying.PVerdict.{PVerdict}
use Rattle.ess_translate.specs.Refusals.{read_no}
use Rattle.ess_translate.specs.declared.refusal.Which.{Which}
use Rattle.ess_translate.specs.declared.refusal.TransNo.{TransNo}

-- The refusal of a text of cells.
abbrev pub cells_no : CellsNo → TransNo
cells_no (CellsNo.Read why) = read_no Which.Solution why
cells_no (CellsNo.Missing x) = TransNo.Unsatisfied (PVerdict.Missing x)
cells_no (CellsNo.Extra x) = TransNo.Unsatisfied (PVerdict.Extra x)
cells_no (CellsNo.OutOfDomain x) = TransNo.Unsatisfied (PVerdict.OutOfDomain x)
cells_no CellsNo.Big = TransNo.Big
cells_no CellsNo.NoMemory = TransNo.NoMemory
