use Rattle.std.proofs.Common.{◌≡◌, ◌++◌, map, drop}
use Rattle.ess_core_nodes.specs.NodeViews.{pure_node}
use Rattle.ess_model_shown.specs.Tables.{pure_shows}
use Rattle.ess_translate_plans.specs.Views.{pure_plan}
use Rattle.ess_model_finds.specs.Finds.{views_of}
use Rattle.ess_model_finds.proofs.views.find_views.Given as goal

abbrev pub invariant-loop-plan : goal.invariant-loop-plan
invariant-loop-plan l =
    map pure_node l.views ++ views_of (pure_shows l.shows) (map pure_plan (drop l.plan-index l.plans)) l.name
    ≡ views_of (pure_shows l.shows) (map pure_plan l.plans) l.name
