use Rattle.std.proofs.Common.{refl, Some, None}
use Rattle.eprime_eval_kinds.proofs.Results.{ok-map}
use Rattle.eprime_eval_kinds.proofs.MadeNodes.{lex_at, lex_none, lex_second_none}
use Rattle.eprime_eval_kinds.proofs.operators.lex.Goals as goal

pub returns-in-Some-Some : goal.returns-in-Some-Some
returns-in-Some-Some c =
    ok-map c.lex_lists.result
    (λ k h names. lex_at names c.args.op c.args.a c.args.b (Some c.in-Some-Some.a)
    (Some c.in-Some-Some.b) k c.in-Some-Some.is-0 c.in-Some-Some.is-1 (h names)) c.lex_lists.ensures

pub returns-in-Some-None : goal.returns-in-Some-None
returns-in-Some-None c =
    ok-map c.broken.result
    (λ k h names. lex_at names c.args.op c.args.a c.args.b (Some c.in-Some-None.a) None k c.in-Some-None.is-0 c.in-Some-None.is-1
    (lex_second_none names c.args.op c.in-Some-None.a k c.kind_of_two.result c.kind_of_two.ensures (h names))) c.broken.ensures

pub returns-in-None-default : goal.returns-in-None-default
returns-in-None-default c =
    ok-map c.broken-in-None-default.result
    (λ k h names. lex_at names c.args.op c.args.a c.args.b None c.args.b k c.in-None-default.is-0 refl
    (lex_none names c.args.op c.args.b k c.kind_of_two-in-None-default.result c.kind_of_two-in-None-default.ensures (h names)))
    c.broken-in-None-default.ensures
