-- Given tables, declarations and numbers of cells, one plan after the other: what each plan adds to those before it.
use Rattle.std.specs.Prelude.{ℕ, ◌+◌, if◌then◌else◌, List, [], ◌∷◌, ◌++◌, Option, Some, option_map}
use Rattle.ess_semantics.specs.Lists.{and_then}
use Rattle.ess_semantics.specs.Values.{Text}
use Rattle.ess_semantics.specs.Names.{Names}
use Rattle.ess_semantics.specs.Tables.{Table}
use Rattle.ess_semantics.specs.Declarations.{Declaration}
use Rattle.ess_semantics.specs.Meaning.{Env}
use Rattle.ess_semantics.specs.Assignments.{Assignment}
use Rattle.ess_semantics.specs.Plans.{Side, Plan, declared_by_plan, cells_of_plan, is_plan_for, canonical_by_plan}
use Rattle.conjure_laws.specs.Premises.{is_on}

-- The tables that a plan adds: its canonical ones where it is one of this side.
abbrev pub tables_on : Side → Env → Assignment → Plan → Option (Names Table)
tables_on f env a p = if is_on f p then canonical_by_plan env a p else Some []

-- The tables of plans in order, where each plan has its own.
abbrev pub tables_by_plans : Side → Env → Assignment → List Plan → Option (Names Table)
tables_by_plans f env a [] = Some []
tables_by_plans f env a (p ∷ ps) = and_then (tables_on f env a p) (λ c. option_map (λ d. c ++ d) (tables_by_plans f env a ps))

-- The declarations that a plan adds.
abbrev pub declared_on : Side → Env → Plan → List Declaration
declared_on f env p = if is_on f p then declared_by_plan env p else []

-- The declarations of plans in order.
abbrev pub declared_by_plans : Side → Env → List Plan → List Declaration
declared_by_plans f env [] = []
declared_by_plans f env (p ∷ ps) = declared_on f env p ++ declared_by_plans f env ps

-- The number of cells that a plan adds to those of a given or find.
abbrev pub cells_on : Text → Env → Plan → ℕ
cells_on x env p = if is_plan_for x p then cells_of_plan env p else 0

-- The number of cells of a given or find in plans.
abbrev pub cells_by_plans : Text → Env → List Plan → ℕ
cells_by_plans x env [] = 0
cells_by_plans x env (p ∷ ps) = cells_on x env p + cells_by_plans x env ps
