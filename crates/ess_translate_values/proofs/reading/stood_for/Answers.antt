use Rattle.std.proofs.Common.{◌≡◌, ap, Some, option_map}
use Rattle.ess_core.specs.TreeViews.{pure_repr}
use Rattle.ess_core.specs.ValueViews.{pure_val}
use Rattle.ess_eval_domains.specs.ClosedViews.{pure_closed}
use Rattle.ess_repr_tables.specs.SlotViews.{pure_tables}
use Rattle.ess_translate_values.proofs.PlanValues.{types_there}
use Rattle.ess_translate_values.proofs.reading.stood_for.Goals as goal

pub returns-in_ok-typed-in-Some : goal.returns-in_ok-typed-in-Some
returns-in_ok-typed-in-Some c =
    let is = c.in-Some.is in
    let q : c.in_ok-val.field-0 ≡ Some c.in-Some.val = cc in
    types_there (pure_repr c.args.repr.now) (pure_closed c.args.domain.now) (pure_closed c.in_ok-plain.plain) (pure_tables c.args.tables.now)
    c.in_ok-plain.ensures (pure_val c.in-Some.val) (option_map pure_val c.in_ok-val.field-0) (option_map pure_val c.in_ok-typed-in-Some.field-0)
    (ap (option_map pure_val) q) c.in_ok-val.ensures c.in_ok-typed-in-Some.ensures
