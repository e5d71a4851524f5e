use Rattle.std.proofs.Common.{ap, ◌∙◌}
use Rattle.ess_translate_plans.specs.SameTables.{are_left}
use Rattle.ess_translate_plans.proofs.SideTables.{side_more, side_fails, side_all}
use Rattle.ess_translate_plans.proofs.declaring.declares_side.Goals as goal

pub returns-in-None : goal.returns-in-None
returns-in-None c =
    side_fails _ _ _ _ _ _ c.loop-plan-test.true c.plan-item.is c.loop-plan.invariant
    (λ xs. c.behind_plan.ensures xs ∙ ap (are_left xs) c.in-None.is)

pub loop-plan-preserved : goal.loop-plan-preserved
loop-plan-preserved c =
    side_more _ _ _ _ _ _ _ c.loop-plan-test.true c.plan-item.is c.loop-plan.invariant
    (λ xs. c.behind_plan.ensures xs ∙ ap (are_left xs) c.in-Some.is)

pub returns : goal.returns
returns c = c.is_empty.ensures ∙ side_all _ _ _ _ _ c.loop-plan-test.false c.loop-plan.invariant
