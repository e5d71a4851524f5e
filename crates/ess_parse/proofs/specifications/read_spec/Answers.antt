use Rattle.ess_grammar.specs.Statements.{IsSpecification}
use Rattle.ess_core.specs.StatementViews.{pure_spec}
use Rattle.ess_parse.specs.Machines.{step_state, finish_specification, start_specification}
use Rattle.ess_parse.proofs.Clauses.{refused, derived, answered, unread, placed}
use Rattle.ess_parse.proofs.StateLaws.{specification-laws}
use Rattle.ess_parse.proofs.ReadableAnswers.{specifications-readable}
use Rattle.ess_parse.proofs.specifications.read_spec.Goals as goal

pub returns-clause-refused : goal.returns-clause-refused
returns-clause-refused c = refused step_state finish_specification start_specification pure_spec c.args.text.now c.run.result c.run.ensures

pub returns-clause-derived : goal.returns-clause-derived
returns-clause-derived c = derived step_state finish_specification start_specification IsSpecification specification-laws pure_spec c.args.text.now c.run.result c.run.ensures

pub returns-clause-answered : goal.returns-clause-answered
returns-clause-answered c = answered step_state finish_specification start_specification IsSpecification specification-laws pure_spec c.args.text.now c.run.result c.run.ensures

pub returns-clause-unread : goal.returns-clause-unread
returns-clause-unread c = unread step_state finish_specification start_specification IsSpecification specification-laws pure_spec c.args.text.now c.run.result c.run.ensures

pub returns-clause-placed : goal.returns-clause-placed
returns-clause-placed c = placed step_state finish_specification start_specification IsSpecification specification-laws pure_spec c.args.text.now c.run.result c.run.ensures

pub returns-clause-readable : goal.returns-clause-readable
returns-clause-readable c =
    specifications-readable pure_spec c.args.text.now c.run.result (refused step_state finish_specification start_specification pure_spec c.args.text.now c.run.result c.run.ensures)
    (derived step_state finish_specification start_specification IsSpecification specification-laws pure_spec c.args.text.now c.run.result c.run.ensures)
