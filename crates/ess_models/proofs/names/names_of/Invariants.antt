use Rattle.std.proofs.Common.{◌≡◌, ◌++◌, map, drop}
use Rattle.ess_semantics.specs.Names.{keys}
use Rattle.ess_semantics.specs.Plans.{names_of_plans}
use Rattle.ess_translate_plans.specs.Views.{pure_plan}
use Rattle.ess_models.proofs.names.names_of.Given as goal

abbrev pub invariant-loop-plan : goal.invariant-loop-plan
invariant-loop-plan l =
    l.names ++ keys (names_of_plans (map pure_plan (drop l.plan-index l.plans))) ≡ keys (names_of_plans (map pure_plan l.plans))
