use Rattle.std.proofs.Common.{◌≡◌, ◌++◌, map, drop, filter}
use Rattle.ess_semantics.specs.Plans.{is_plan_for}
use Rattle.ess_core_nodes.specs.NodeViews.{pure_node, pure_dom}
use Rattle.conjure_model_laws.specs.Shown.{view_by}
use Rattle.ess_translate_plans.specs.Views.{pure_plan}
use Rattle.ess_model_views.proofs.views.views_of.Given as goal

abbrev pub invariant-loop-plan : goal.invariant-loop-plan
invariant-loop-plan l =
    map pure_node l.views ++ map (view_by (pure_dom l.dom)) (filter (is_plan_for l.name) (map pure_plan (drop l.plan-index l.plans)))
    ≡ map (view_by (pure_dom l.dom)) (filter (is_plan_for l.name) (map pure_plan l.plans))
