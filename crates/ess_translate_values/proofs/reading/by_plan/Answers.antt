use Rattle.std.proofs.Common.{◌≡◌, Some, map}
use Rattle.ess_core.specs.TableViews.{pure_named_table}
use Rattle.ess_translate_values.proofs.PlanValues.{value_found}
use Rattle.ess_translate_values.proofs.reading.by_plan.Goals as goal

pub returns-in_ok-stood_for-in-Some-2 : goal.returns-in_ok-stood_for-in-Some-2
returns-in_ok-stood_for-in-Some-2 c =
    let is = c.in-Some.is in
    let js = c.in-Some-2.is in
    let p : c.args.domain.now ≡ Some c.in-Some.domain = cc in
    let q : c.in_ok-tables-in-Some.field-0 ≡ Some c.in-Some-2.tables = cc in
    value_found c.args.plan.now (map pure_named_table c.args.cells.now) c.args.domain.now c.in-Some.domain c.get-in-Some-2.result.now c.get.result.now
    c.as_slice.result.now c.in_ok-tables-in-Some.field-0 c.in-Some-2.tables c.as_slice-in-Some-2.result.now c.in_ok-stood_for-in-Some-2.field-0
    p c.get-in-Some-2.ensures c.get.ensures c.as_slice.ensures q c.as_slice-in-Some-2.ensures c.in_ok-tables-in-Some.ensures
    c.in_ok-stood_for-in-Some-2.ensures
