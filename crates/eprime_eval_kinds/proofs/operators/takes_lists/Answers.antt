use Rattle.eprime_eval_kinds.proofs.MadeNodes.{lists_taken}
use Rattle.eprime_eval_kinds.proofs.operators.takes_lists.Goals as goal

pub returns-in-Some-Some : goal.returns-in-Some-Some
returns-in-Some-Some c =
    lists_taken c.args.op c.args.a.now.index c.args.b.now.index c.args.a.now.item c.args.b.now.item c.in-Some-Some.field-0-0
    c.in-Some-Some.field-0-1
    c.compares_lists.result c.in-Some-Some.ensures c.in-Some-Some.ensures' c.compares_lists.ensures
