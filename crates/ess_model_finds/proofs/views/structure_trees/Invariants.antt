use Rattle.std.proofs.Common.{◌≡◌, ◌++◌, map, drop}
use Rattle.ess_core_nodes.specs.NodeViews.{pure_node}
use Rattle.ess_model_shown.specs.Tables.{pure_shows}
use Rattle.ess_translate_plans.specs.Views.{pure_plan}
use Rattle.ess_model_finds.specs.Finds.{structures_of}
use Rattle.ess_model_finds.proofs.views.structure_trees.Given as goal

abbrev pub invariant-loop-plan : goal.invariant-loop-plan
invariant-loop-plan l =
    map pure_node l.trees ++ structures_of (pure_shows l.shows) (map pure_plan (drop l.plan-index l.plans))
    ≡ structures_of (pure_shows l.shows) (map pure_plan l.plans)
