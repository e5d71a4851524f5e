use Rattle.std.proofs.Common.{arith}
use Rattle.std.proofs.lemmas.Result.{on_ok_weaker}
use Rattle.conjure_cli.proofs.CountLaws.{last_pushed}
use Rattle.conjure_cli.proofs.reasons.+push_u128.Goals as goal

pub returns : goal.returns
returns n c =
    on_ok_weaker c.push_u64-2.result
    (λ k. last_pushed c.args.number c.args.line.now c.push_u128.new.line c.push_u64-2.new.self (omega arith) (omega arith)
    c.in_ok-push_u128.ensures k)
    c.push_u64-2.ensures.ok
