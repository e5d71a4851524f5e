use Rattle.std.proofs.Common.{◌≡◌, map, drop}
use Rattle.conjure_laws.specs.ModelsOfSets.{size_name}
use Rattle.ess_translate_plans.specs.Views.{pure_plan}
use Rattle.ess_model_views.proofs.statements.size_name.Given as goal

abbrev pub invariant-loop-plan : goal.invariant-loop-plan
invariant-loop-plan l = size_name (map pure_plan (drop l.plan-index l.plans)) l.name ≡ size_name (map pure_plan l.plans) l.name
