use Rattle.std.proofs.Common.{Some, None}
use Rattle.eprime_eval_kinds.proofs.Results.{ok-map}
use Rattle.eprime_eval_kinds.proofs.MadeNodes.{fold_at, fold_none}
use Rattle.eprime_eval_kinds.proofs.operators.fold.Goals as goal

pub returns-in-Some : goal.returns-in-Some
returns-in-Some c =
    ok-map c.fold_list.result (λ k h names. fold_at names c.args.fun c.args.list (Some c.in-Some.list) k c.in-Some.is (h names))
    c.fold_list.ensures

pub returns-in-None : goal.returns-in-None
returns-in-None c =
    ok-map c.broken.result (λ k h names. fold_at names c.args.fun c.args.list None k c.in-None.is
    (fold_none names c.args.fun k c.kind_of_fold.result c.kind_of_fold.ensures (h names))) c.broken.ensures
