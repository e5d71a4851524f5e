use Rattle.std.proofs.Common.{map, option_map}
use Rattle.std.proofs.lemmas.Result.{IfOk-weaker}
use Rattle.ess_eval_domains.specs.ClosedViews.{pure_closed}
use Rattle.ess_domains.specs.Assignments.{pure_assignment}
use Rattle.ess_translate_plans.specs.Views.{pure_plan}
use Rattle.ess_translate_given.proofs.ReadyGivens.{tables_given}
use Rattle.ess_translate_given.proofs.tables.given_tables.Goals as goal

pub returns : goal.returns
returns c =
    IfOk-weaker c.all_tables.result _ _
    (λ o t. tables_given (pure_assignment c.args.param.now) (map pure_plan c.args.plans.now) (map (option_map pure_closed) c.args.closed.now) o t)
    c.all_tables.ensures
