use Rattle.std.proofs.Common.{arith}
use Rattle.ess_types.proofs.Runs.{run_failed}
use Rattle.ess_types.proofs.checking.run.Goals as goal

pub returns-in-Some-clause-refused : goal.returns-in-Some-clause-refused
returns-in-Some-clause-refused c =
    run_failed c.args.stms.now c.loop-i.i c.index-stms-i.result c.loop-i.progress
    (omega (arith, c.loop-i-test.true)) c.index-stms-i.is c.in_ok-judgement.field-0
    c.in-Some.judgement c.in_ok-judgement.ensures.judged c.in-Some.is c.loop-i.invariant.verdict c.refused.result c.refused.ensures
