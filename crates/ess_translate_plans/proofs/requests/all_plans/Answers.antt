use Rattle.std.proofs.Common.{map}
use Rattle.ess_translate_plans.specs.Views.{pure_plan}
use Rattle.ess_translate_plans.proofs.Added.{asked_by, plans_more, plans_all}
use Rattle.ess_translate_plans.proofs.requests.all_plans.Goals as goal

pub loop-stm-preserved : goal.loop-stm-preserved
loop-stm-preserved c =
    plans_more c.args.stms.now c.loop-stm.stm-index c.stm-item.result (asked_by c.args.stms.now c.args.reprs.now) c.loop-stm.rest.now
    c.in_ok-rest.rest.now c.args.declared.now (map pure_plan c.loop-stm.plans) c.loop-stm.tables
    (map pure_plan c.add_statement.new.plans) c.add_statement.new.tables c.loop-stm-test.true c.stm-item.is c.loop-stm.invariant
    c.in_ok-rest.ensures.left c.in_ok-rest.ensures.added

pub returns : goal.returns
returns c =
    plans_all c.args.stms.now c.loop-stm.stm-index (asked_by c.args.stms.now c.args.reprs.now) c.loop-stm.rest.now c.args.declared.now
    (map pure_plan c.loop-stm.plans) c.loop-stm.tables c.loop-stm-test.false c.loop-stm.invariant
