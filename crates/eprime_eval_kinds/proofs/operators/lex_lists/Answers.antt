use Rattle.std.proofs.Common.{◌∙◌, sym}
use Rattle.eprime_eval_kinds.proofs.Results.{ok-map}
use Rattle.eprime_eval_kinds.proofs.MadeNodes.{lex_stands, lex_breaks}
use Rattle.eprime_eval_kinds.proofs.operators.lex_lists.Goals as goal

pub returns-in_ok-new : goal.returns-in_ok-new
returns-in_ok-new c = λ names.
    lex_stands names c.args.op c.args.a c.args.b c.in_ok-new.field-0 c.kind_of_two-kind.result c.kind_of_two-kind.ensures
    (sym c.if-takes_lists.true ∙ c.takes_lists.ensures) c.in_ok-new.ensures

pub returns-else-takes_lists : goal.returns-else-takes_lists
returns-else-takes_lists c =
    ok-map c.broken.result (λ k h names. lex_breaks names c.args.op c.args.a c.args.b k c.kind_of_two-kind.result c.kind_of_two-kind.ensures
    (sym c.if-takes_lists.false ∙ c.takes_lists.ensures) (h names)) c.broken.ensures
