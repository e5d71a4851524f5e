use Rattle.ess_grammar.specs.CellTexts.{IsCells}
use Rattle.ess_parse.proofs.Clauses.{refused, derived, answered, unread, placed}
use Rattle.eprime_read_cells_laws.specs.CellMachine.{cells_step, cells_finish, cells_start}
use Rattle.eprime_cells_machine.specs.ValueViews.{pure_lettings}
use Rattle.eprime_read_cells.proofs.CellLaws.{cell-laws}
use Rattle.eprime_read_cells.proofs.lettings.read_lettings.Goals as goal

pub returns-clause-refused : goal.returns-clause-refused
returns-clause-refused c = refused cells_step cells_finish cells_start pure_lettings c.args.text.now c.run.result c.run.ensures

pub returns-clause-derived : goal.returns-clause-derived
returns-clause-derived c = derived cells_step cells_finish cells_start IsCells cell-laws pure_lettings c.args.text.now c.run.result c.run.ensures

pub returns-clause-answered : goal.returns-clause-answered
returns-clause-answered c = answered cells_step cells_finish cells_start IsCells cell-laws pure_lettings c.args.text.now c.run.result c.run.ensures

pub returns-clause-unread : goal.returns-clause-unread
returns-clause-unread c = unread cells_step cells_finish cells_start IsCells cell-laws pure_lettings c.args.text.now c.run.result c.run.ensures

pub returns-clause-placed : goal.returns-clause-placed
returns-clause-placed c = placed cells_step cells_finish cells_start IsCells cell-laws pure_lettings c.args.text.now c.run.result c.run.ensures
