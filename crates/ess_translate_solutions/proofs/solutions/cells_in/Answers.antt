use Rattle.std.proofs.Common.{sym, subst}
use Rattle.std.specs.Prelude.{Ok, Err}
use Rattle.ess_core.specs.TableViews.{pure_cells}
use Rattle.ess_domains.specs.Assignments.{pure_assignment}
use Rattle.ess_translate_solutions.specs.CellFiles.{IsNotSolved}
use Rattle.ess_translate_files.specs.Wholes.{file_header, file_model}
use Rattle.ess_translate_solutions.proofs.Cells.{cells_are, cells_refused}
use Rattle.ess_translate_solutions.proofs.Transported.{fitted_here}
use Rattle.ess_translate_solutions.proofs.solutions.cells_in.Goals as goal

-- src/solutions.rt
pub returns-in-Ok-clause-ok : goal.returns-in-Ok-clause-ok
returns-in-Ok-clause-ok c =
    cells_are c.args.file.now.model c.args.given.now.tables c.in-Ok.cells c.args.cells.now c.in-Ok.ensures.refused
    (fitted_here c.args.file.now.model c.get.result.now c.get-2.result.now c.args.given.now.tables c.args.cells.now (Ok c.in-Ok.cells)
    c.get.ensures c.get-2.ensures c.in-Ok.ensures.fitted)

-- src/solutions.rt
pub returns-in-Err-clause-refused : goal.returns-in-Err-clause-refused
returns-in-Err-clause-refused c =
    let H = file_header c.args.file.now in
    let E = file_model c.args.file.now in
    let p = pure_assignment c.args.given.now.param in
    let q = pure_cells c.args.given.now.tables in
    subst (IsNotSolved H E p q c.args.cells.now) (sym c.cells_no.ensures)
    (cells_refused H c.args.file.now.model p c.args.given.now.tables c.args.cells.now c.in-Err.why c.in-Err.ensures.refused
    (fitted_here c.args.file.now.model c.get.result.now c.get-2.result.now c.args.given.now.tables c.args.cells.now (Err c.in-Err.why)
    c.get.ensures c.get-2.ensures c.in-Err.ensures.fitted) c.in-Err.ensures.unread c.in-Err.ensures.placed)
