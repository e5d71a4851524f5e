-- The closed domains of plans, and what each plan's tables have as members, plan by plan.
use Rattle.std.specs.Prelude.{if◌then◌else◌, List, [], ◌∷◌, ◌++◌, map, Option, None, option_map}
use Rattle.ess_semantics.specs.Lists.{list_or_none}
use Rattle.ess_semantics.specs.Domains.{Domain}
use Rattle.ess_semantics.specs.Declarations.{Declaration, declarations}
use Rattle.ess_semantics.specs.Meaning.{Env, domain_of}
use Rattle.ess_semantics.specs.Plans.{Side, givens_side, same_side, Plan, size_plan, value_plan, from_one}
use Rattle.ess_translate_members_laws.specs.CellForms.{plain}

-- The domain of a plan, with its types: none for a type's number of values.
abbrev pub plan_closed : Env → Plan → Option Domain
plan_closed env (size_plan t a) = None
plan_closed env (value_plan f x r d ns) = domain_of d env

-- What is on this side, else nothing.
abbrev pub only_on : Side → Side → List Declaration → List Declaration
only_on f g ds = if same_side g f then ds else []

-- The tables of a plan with this domain, where it is one of the side f, with cells as numbers.
abbrev pub tables_on : Side → Plan → Option Domain → List Declaration
tables_on f (size_plan t a) o = only_on f givens_side (record { axes = []; cell = from_one } ∷ [])
tables_on f (value_plan g x r d ns) o = only_on f g (map plain (list_or_none (option_map (declarations r) o)))

-- The tables of plans with these domains.
abbrev pub tables_of_side : Side → List Plan → List (Option Domain) → List Declaration
tables_of_side f (p ∷ ps) (o ∷ os) = tables_on f p o ++ tables_of_side f ps os
tables_of_side f _ os = []
