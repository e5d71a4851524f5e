use Rattle.std.proofs.Common.{◌≡◌, map}
use Rattle.ess_core.specs.TableViews.{pure_named_table}
use Rattle.ess_translate_plans.specs.declared.plans.Plan.TheVariants as variant
use Rattle.ess_translate_values.proofs.PlanValues.{answer_found}
use Rattle.ess_translate_values.proofs.answers.answer.Goals as goal

pub returns-in_ok-by_plan-in-Value : goal.returns-in_ok-by_plan-in-Value
returns-in_ok-by_plan-in-Value c =
    let is = c.in-Value.is in
    let p : c.args.plan.now ≡ variant.Value c.in-Value.value = cc in
    answer_found c.args.plan.now c.in-Value.value c.get.result.now (map pure_named_table c.args.cells.now) c.args.domain.now
    c.in_ok-by_plan-in-Value.field-0 p c.get.ensures c.in_ok-by_plan-in-Value.ensures
