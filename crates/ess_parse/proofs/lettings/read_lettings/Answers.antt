use Rattle.ess_grammar.specs.Statements.{IsLettingsFile}
use Rattle.ess_parse.specs.LettingViews.{pure_lettings}
use Rattle.ess_parse.specs.Machines.{step_lettings, finish_lettings, start_lettings}
use Rattle.ess_parse.proofs.Clauses.{refused, derived, answered, unread, placed}
use Rattle.ess_parse.proofs.LettingsLaws.{lettings-laws}
use Rattle.ess_parse.proofs.ReadableAnswers.{lettings-readable}
use Rattle.ess_parse.proofs.lettings.read_lettings.Goals as goal

pub returns-clause-refused : goal.returns-clause-refused
returns-clause-refused c = refused step_lettings finish_lettings start_lettings pure_lettings c.args.text.now c.run.result c.run.ensures

pub returns-clause-derived : goal.returns-clause-derived
returns-clause-derived c = derived step_lettings finish_lettings start_lettings IsLettingsFile lettings-laws pure_lettings c.args.text.now c.run.result c.run.ensures

pub returns-clause-answered : goal.returns-clause-answered
returns-clause-answered c = answered step_lettings finish_lettings start_lettings IsLettingsFile lettings-laws pure_lettings c.args.text.now c.run.result c.run.ensures

pub returns-clause-unread : goal.returns-clause-unread
returns-clause-unread c = unread step_lettings finish_lettings start_lettings IsLettingsFile lettings-laws pure_lettings c.args.text.now c.run.result c.run.ensures

pub returns-clause-placed : goal.returns-clause-placed
returns-clause-placed c = placed step_lettings finish_lettings start_lettings IsLettingsFile lettings-laws pure_lettings c.args.text.now c.run.result c.run.ensures

pub returns-clause-readable : goal.returns-clause-readable
returns-clause-readable c =
    lettings-readable pure_lettings c.args.text.now c.run.result (refused step_lettings finish_lettings start_lettings pure_lettings c.args.text.now c.run.result c.run.ensures)
    (derived step_lettings finish_lettings start_lettings IsLettingsFile lettings-laws pure_lettings c.args.text.now c.run.result c.run.ensures)
