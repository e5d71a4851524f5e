use Rattle.ess_repr.proofs.Fronts.{numbers_step, numbers_all}
use Rattle.ess_repr.proofs.naming.numbered.Goals as goal

pub loop-i-preserved : goal.loop-i-preserved
loop-i-preserved c =
    numbers_step c.args.parts.now c.loop-i.i c.loop-i.names c.push.new.self c.in_ok-name.name c.loop-i-test.true c.in_ok-name.ensures
    c.in_ok-push.ensures.ok c.loop-i.invariant

pub returns : goal.returns
returns c = numbers_all c.args.parts.now c.loop-i.i c.loop-i.names c.loop-i-test.false c.loop-i.invariant
