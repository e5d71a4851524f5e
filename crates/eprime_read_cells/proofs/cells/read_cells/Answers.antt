use Rattle.eprime_read_cells.proofs.AllAnswers.{refused, fitted, judged, unread, placed}
use Rattle.eprime_read_cells.proofs.cells.read_cells.Goals as goal

pub returns-clause-refused : goal.returns-clause-refused
returns-clause-refused c = refused c.args.known.now c.args.givens.now c.args.decls.now c.args.text.now c.read_lettings.result c.answer.result c.answer.ensures c.read_lettings.ensures.refused

pub returns-clause-fitted : goal.returns-clause-fitted
returns-clause-fitted c = fitted c.args.known.now c.args.givens.now c.args.decls.now c.args.text.now c.read_lettings.result c.answer.result c.answer.ensures c.read_lettings.ensures.derived

pub returns-clause-judged : goal.returns-clause-judged
returns-clause-judged c = judged c.args.known.now c.args.givens.now c.args.decls.now c.args.text.now c.read_lettings.result c.answer.result c.answer.ensures c.read_lettings.ensures.answered

pub returns-clause-unread : goal.returns-clause-unread
returns-clause-unread c = unread c.args.known.now c.args.givens.now c.args.decls.now c.args.text.now c.read_lettings.result c.answer.result c.answer.ensures c.read_lettings.ensures.unread

pub returns-clause-placed : goal.returns-clause-placed
returns-clause-placed c = placed c.args.known.now c.args.givens.now c.args.decls.now c.args.text.now c.read_lettings.result c.answer.result c.answer.ensures c.read_lettings.ensures.placed
