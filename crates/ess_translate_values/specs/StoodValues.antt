-- What a find with its value stands for, and what is asked where plans are gone through.
use Rattle.std.specs.Prelude.{◌≡◌, List, map, filter, Option, option_map}
use Rattle.ess_semantics.specs.Values.{Text, Value}
use Rattle.ess_semantics.specs.Names.{Names}
use Rattle.ess_semantics.specs.Tables.{Table}
use Rattle.ess_semantics.specs.Contexts.{Each}
use Rattle.ess_semantics.specs.Meaning.{Env}
use Rattle.ess_semantics.specs.Plans.{finds_side}
use Rattle.conjure_laws.specs.Premises.{is_on}
use Rattle.ess_core.specs.ValueViews.{pure_val}
use Rattle.ess_eval_domains.specs.declared.closed.Closed.{Closed}
use Rattle.ess_eval_domains.specs.ClosedViews.{pure_closed}
use Rattle.ess_translate_plans.specs.declared.plans.Plan.{Plan}
use Rattle.ess_translate_plans.specs.Views.{pure_plan}
use Rattle.ess_translate_members_laws.specs.PlanDomains.{plan_closed}
use Rattle.ess_translate_values_laws.specs.ReadyPlans.{IsReady}
use Rattle.ess_translate_values.specs.declared.stood.StoodFor.{StoodFor}

-- A find with its value.
abbrev pub pure_stood : StoodFor → Text × Option Value
pure_stood s = (s.name, option_map pure_val s.value)

-- The plans have these domains under env, and those of finds are ready at the tables c.
pub record AreAtPlans (env : Env) (ps : List Plan) (es : List (Option Closed)) (c : Names Table) : Type 0 where
  pub domains : map (option_map pure_closed) es ≡ map (plan_closed env) (map pure_plan ps)
  pub ready : Each (filter (is_on finds_side) (map pure_plan ps)) (IsReady env c)
