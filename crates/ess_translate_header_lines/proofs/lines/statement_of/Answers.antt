use Rattle.std.proofs.Common.{sym, ◌∙◌, subst}
use Rattle.ess_core.specs.StatementViews.{pure_spec}
use Rattle.ess_grammar.specs.Statements.{IsSpecification}
use Rattle.ess_parse.specs.Readers.{IsRefusedFirst, IsDerived, IsAnswered}
use Rattle.ess_translate_header_lines.proofs.ReadLines.{statement_read, statement_refused}
use Rattle.ess_translate_header_lines.proofs.lines.statement_of.Goals as goal

pub returns-in-Ok : goal.returns-in-Ok
returns-in-Ok c =
    let a = c.read_spec.result in
    statement_read c.args.line.now c.in-Ok.spec a c.only_statement.result c.in-Ok.is
    (sym c.begins_with_language.ensures ∙ c.if-begins_with_language.false)
    (subst (λ t. IsRefusedFirst t a) c.as_bytes.ensures c.read_spec.ensures.refused)
    (subst (λ t. IsDerived IsSpecification pure_spec t a) c.as_bytes.ensures c.read_spec.ensures.derived)
    (subst (λ t. IsAnswered IsSpecification pure_spec t a) c.as_bytes.ensures c.read_spec.ensures.answered) c.only_statement.ensures

pub returns-in_ok-of_text-in-Err : goal.returns-in_ok-of_text-in-Err
returns-in_ok-of_text-in-Err c =
    statement_refused c.args.line.now c.in-Err.no c.read_spec.result c.in-Err.is c.in_ok-of_text-in-Err.ensures
    (subst (λ t. IsAnswered IsSpecification pure_spec t c.read_spec.result) c.as_bytes.ensures c.read_spec.ensures.answered)
