use Rattle.std.proofs.Common.{map, option_map}
use Rattle.std.proofs.lemmas.Result.{IfOk-weaker}
use Rattle.ess_core.specs.TreeViews.{pure_repr}
use Rattle.ess_core.specs.TableViews.{pure_table}
use Rattle.ess_core.specs.ValueViews.{pure_val}
use Rattle.ess_eval_domains.specs.ClosedViews.{pure_closed}
use Rattle.ess_translate_given.proofs.PlanTables.{at_value}
use Rattle.ess_translate_given.proofs.plan_tables.at_domain.Goals as goal

pub returns-in-Ok : goal.returns-in-Ok
returns-in-Ok c =
    IfOk-weaker c.down_all-found.result _ _
    (λ o t room m. at_value (pure_repr c.args.tree.now) (pure_closed c.args.domain.now) (pure_val c.args.val.now) (pure_val c.in-Ok.val)
    (option_map (map pure_table) o) c.in-Ok.ensures t room m)
    c.down_all-found.ensures
