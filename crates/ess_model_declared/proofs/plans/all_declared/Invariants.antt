use Rattle.std.proofs.Common.{◌≡◌, ◌++◌, map, drop}
use Rattle.ess_declared_trees.specs.TableViews.{pure_declared}
use Rattle.ess_model_shown.specs.Tables.{pure_shows}
use Rattle.ess_translate_plans.specs.Views.{pure_side}
use Rattle.ess_model_declared.proofs.PlanSteps.{tables_of}
use Rattle.ess_model_declared.proofs.plans.all_declared.Given as goal

abbrev pub invariant-loop-plan : goal.invariant-loop-plan
invariant-loop-plan l =
    map pure_declared l.all ++ tables_of (pure_shows l.shows) (pure_side l.side) (drop l.plan-index l.plans)
    ≡ tables_of (pure_shows l.shows) (pure_side l.side) l.plans
