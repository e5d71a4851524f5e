use Rattle.std.proofs.Common.{◌∙◌, sym}
use Rattle.eprime_eval_kinds.proofs.Results.{ok-map}
use Rattle.eprime_eval_kinds.proofs.MadeNodes.{one_breaks}
use Rattle.eprime_eval_kinds.proofs.operators.one.Goals as goal

pub returns-else-stands_one : goal.returns-else-stands_one
returns-else-stands_one c =
    ok-map c.broken.result (λ k h names. one_breaks names c.args.op c.args.a k c.kind_of_one-kind.result c.kind_of_one-kind.ensures
    (sym c.if-stands_one.false ∙ c.stands_one.ensures) (h names)) c.broken.ensures
