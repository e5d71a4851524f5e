-- Tables that were made of plans with their domains.
use Rattle.std.specs.Prelude.{◌≡◌, List, [], ◌∷◌, map, Option, option_map}
use Rattle.ess_semantics.specs.Domains.{Domain}
use Rattle.ess_semantics.specs.Meaning.{Env}
use Rattle.ess_semantics.specs.Assignments.{Assignment}
use Rattle.ess_semantics.specs.Plans.{givens_side, Plan}
use Rattle.ess_core.specs.declared.tables.NamedTable.{NamedTable}
use Rattle.ess_core.specs.TableViews.{pure_named_table}
use Rattle.ess_translate_given_laws.specs.ByPlans.{tables_by_plans}
use Rattle.ess_translate_given.specs.ReadyPlans.{PlansReady}

-- Where the plans are ready, these are the tables of their givens.
pub record AreTables (a : Assignment) (ps : List Plan) (os : List (Option Domain)) (ts : Option (List NamedTable)) : Type 0 where
  pub are : (env : Env) → PlansReady env a ps os → option_map (map pure_named_table) ts ≡ tables_by_plans givens_side env a ps

-- The same of one plan.
abbrev pub IsTable : Assignment → Plan → Option Domain → Option (List NamedTable) → Type 0
IsTable a p o ts = AreTables a (p ∷ []) (o ∷ []) ts
