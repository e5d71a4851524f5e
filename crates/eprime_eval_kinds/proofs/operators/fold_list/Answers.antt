use Rattle.std.proofs.Common.{◌∙◌}
use Rattle.eprime_eval_kinds.proofs.Results.{ok-map}
use Rattle.eprime_eval_kinds.proofs.MadeNodes.{fold_breaks}
use Rattle.eprime_eval_kinds.proofs.operators.fold_list.Goals as goal

pub returns-else-takes_list : goal.returns-else-takes_list
returns-else-takes_list c =
    ok-map c.broken.result (λ k h names. fold_breaks names c.args.fun c.args.list k c.kind_of_fold-kind.result c.kind_of_fold-kind.ensures
    (λ i. c.takes_list.ensures i ∙ c.if-takes_list.false) (h names)) c.broken.ensures
