-- Which given or find of a header has too many cells under a parameter: the first one by its name, and the first one by its plans.
use Rattle.std.specs.Prelude.{ℕ, if◌then◌else◌, List, [], ◌∷◌, Option, Some, None, nat_le}
use Rattle.ess_semantics.specs.Values.{Text}
use Rattle.ess_semantics.specs.Names.{keys}
use Rattle.ess_semantics.specs.Assignments.{Assignment}
use Rattle.ess_semantics.specs.ModelTrees.{Header}
use Rattle.ess_semantics.specs.Plans.{kept_names, Plan, size_plan, value_plan, cells_of_name}

-- The most cells that the tables of one given or find may have.
abbrev pub cell_limit : ℕ
cell_limit = 16777216

-- The first of some names whose number is above the limit, with the number.
abbrev pub first_above : (Text → ℕ) → List Text → Option (Text × ℕ)
first_above f [] = None
first_above f (x ∷ xs) = if nat_le (f x) cell_limit then first_above f xs else Some (x, f x)

-- The first given or find of the header whose tables have too many cells under the parameter p, with their number.
abbrev pub too_many : Header → Assignment → Option (Text × ℕ)
too_many H p = first_above (cells_of_name H.statements H.reprs p) (keys (kept_names H.statements))

-- The first of some plans whose name has a number above the limit, with the name and the number.
abbrev pub first_plan_above : (Text → ℕ) → List Plan → Option (Text × ℕ)
first_plan_above f [] = None
first_plan_above f (size_plan t a ∷ ps) = first_plan_above f ps
first_plan_above f (value_plan s x r d ns ∷ ps) = if nat_le (f x) cell_limit then first_plan_above f ps else Some (x, f x)
