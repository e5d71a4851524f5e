use Rattle.ess_parse.specs.NamedRepresentations.{IsRepresentationLine, step_line, finish_line, word_wanted}
use Rattle.ess_parse.specs.NamedReprViews.{pure_named_reprs}
use Rattle.ess_parse.proofs.Clauses.{refused, derived, answered, unread, placed}
use Rattle.ess_parse.proofs.NamedRepresentationLaws.{line-laws}
use Rattle.ess_parse.proofs.representations.named.read_named_reprs.Goals as goal

pub returns-clause-refused : goal.returns-clause-refused
returns-clause-refused c = refused step_line finish_line word_wanted pure_named_reprs c.args.text.now c.run.result c.run.ensures

pub returns-clause-derived : goal.returns-clause-derived
returns-clause-derived c = derived step_line finish_line word_wanted IsRepresentationLine line-laws pure_named_reprs c.args.text.now c.run.result c.run.ensures

pub returns-clause-answered : goal.returns-clause-answered
returns-clause-answered c = answered step_line finish_line word_wanted IsRepresentationLine line-laws pure_named_reprs c.args.text.now c.run.result c.run.ensures

pub returns-clause-unread : goal.returns-clause-unread
returns-clause-unread c = unread step_line finish_line word_wanted IsRepresentationLine line-laws pure_named_reprs c.args.text.now c.run.result c.run.ensures

pub returns-clause-placed : goal.returns-clause-placed
returns-clause-placed c = placed step_line finish_line word_wanted IsRepresentationLine line-laws pure_named_reprs c.args.text.now c.run.result c.run.ensures
