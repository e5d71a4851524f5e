use Rattle.std.proofs.Common.{◌∙◌, sym}
use Rattle.eprime_eval_kinds.proofs.Results.{ok-map}
use Rattle.eprime_eval_kinds.proofs.MadeNodes.{two_stands, two_breaks}
use Rattle.eprime_eval_kinds.proofs.operators.two.Goals as goal

pub returns-in_ok-new : goal.returns-in_ok-new
returns-in_ok-new c = λ names.
    two_stands names c.args.op c.args.a c.args.b c.in_ok-new.field-0 c.kind_of_two-kind.result c.kind_of_two-kind.ensures
    (sym c.if-stands_two.true ∙ c.stands_two.ensures) c.in_ok-new.ensures

pub returns-else-stands_two : goal.returns-else-stands_two
returns-else-stands_two c =
    ok-map c.broken.result (λ k h names. two_breaks names c.args.op c.args.a c.args.b k c.kind_of_two-kind.result c.kind_of_two-kind.ensures
    (sym c.if-stands_two.false ∙ c.stands_two.ensures) (h names)) c.broken.ensures
