use Rattle.ess_grammar.specs.Statements.{IsDomain}
use Rattle.ess_core.specs.TreeViews.{pure_dom}
use Rattle.ess_parse.specs.Machines.{step_state, finish_domain, start_domain}
use Rattle.ess_parse.proofs.Clauses.{refused, derived, answered, unread, placed}
use Rattle.ess_parse.proofs.StateLaws.{domain-laws}
use Rattle.ess_parse.proofs.ReadableAnswers.{domains-readable}
use Rattle.ess_parse.proofs.domains.read_dom.Goals as goal

pub returns-clause-refused : goal.returns-clause-refused
returns-clause-refused c = refused step_state finish_domain start_domain pure_dom c.args.text.now c.run.result c.run.ensures

pub returns-clause-derived : goal.returns-clause-derived
returns-clause-derived c = derived step_state finish_domain start_domain IsDomain domain-laws pure_dom c.args.text.now c.run.result c.run.ensures

pub returns-clause-answered : goal.returns-clause-answered
returns-clause-answered c = answered step_state finish_domain start_domain IsDomain domain-laws pure_dom c.args.text.now c.run.result c.run.ensures

pub returns-clause-unread : goal.returns-clause-unread
returns-clause-unread c = unread step_state finish_domain start_domain IsDomain domain-laws pure_dom c.args.text.now c.run.result c.run.ensures

pub returns-clause-placed : goal.returns-clause-placed
returns-clause-placed c = placed step_state finish_domain start_domain IsDomain domain-laws pure_dom c.args.text.now c.run.result c.run.ensures

pub returns-clause-readable : goal.returns-clause-readable
returns-clause-readable c =
    domains-readable pure_dom c.args.text.now c.run.result (refused step_state finish_domain start_domain pure_dom c.args.text.now c.run.result c.run.ensures)
    (derived step_state finish_domain start_domain IsDomain domain-laws pure_dom c.args.text.now c.run.result c.run.ensures)
