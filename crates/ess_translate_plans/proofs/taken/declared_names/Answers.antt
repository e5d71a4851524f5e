use Rattle.ess_translate_plans.proofs.Turns.{declared_all}
use Rattle.ess_translate_plans.proofs.taken.declared_names.Goals as goal

pub returns : goal.returns
returns c = declared_all c.args.stms.now c.loop-stm.stm-index c.loop-stm.names c.loop-stm-test.false c.loop-stm.invariant
