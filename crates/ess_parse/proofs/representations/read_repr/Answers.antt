use Rattle.ess_grammar.specs.Representations.{IsRepresentation}
use Rattle.ess_core.specs.TreeViews.{pure_repr}
use Rattle.ess_parse.specs.Machines.{step_representation, finish_representation, start_representation}
use Rattle.ess_parse.proofs.Clauses.{refused, derived, answered, unread, placed}
use Rattle.ess_parse.proofs.RepresentationLaws.{representation-laws}
use Rattle.ess_parse.proofs.representations.read_repr.Goals as goal

pub returns-clause-refused : goal.returns-clause-refused
returns-clause-refused c = refused step_representation finish_representation start_representation pure_repr c.args.text.now c.run.result c.run.ensures

pub returns-clause-derived : goal.returns-clause-derived
returns-clause-derived c = derived step_representation finish_representation start_representation IsRepresentation representation-laws pure_repr c.args.text.now c.run.result c.run.ensures

pub returns-clause-answered : goal.returns-clause-answered
returns-clause-answered c = answered step_representation finish_representation start_representation IsRepresentation representation-laws pure_repr c.args.text.now c.run.result c.run.ensures

pub returns-clause-unread : goal.returns-clause-unread
returns-clause-unread c = unread step_representation finish_representation start_representation IsRepresentation representation-laws pure_repr c.args.text.now c.run.result c.run.ensures

pub returns-clause-placed : goal.returns-clause-placed
returns-clause-placed c = placed step_representation finish_representation start_representation IsRepresentation representation-laws pure_repr c.args.text.now c.run.result c.run.ensures
