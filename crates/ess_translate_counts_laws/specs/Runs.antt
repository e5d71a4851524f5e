-- The first given or find with too many cells, found in one pass over the plans: those of one name stand one behind the other.
use Rattle.std.specs.Prelude.{ℕ, ◌+◌, if◌then◌else◌, List, [], ◌∷◌, Option, Some, None, nat_le}
use Rattle.ess_semantics.specs.Values.{Text}
use Rattle.ess_semantics.specs.Plans.{Plan, size_plan, value_plan, is_plan_for}
use Rattle.ess_translate_given_laws.specs.Counts.{cell_limit}

-- The cells of the plans of a name with which the list begins, where f tells those of a plan.
abbrev pub run_count : (Plan → ℕ) → Text → List Plan → ℕ
run_count f x [] = 0
run_count f x (p ∷ ps) = if is_plan_for x p then f p + run_count f x ps else 0

-- The first plan from which on the plans of its name have a number above the limit, with the name and the number.
abbrev pub first_run_above : (Plan → ℕ) → List Plan → Option (Text × ℕ)
first_run_above f [] = None
first_run_above f (size_plan t a ∷ ps) = first_run_above f ps
first_run_above f (value_plan s x r d ns ∷ ps) =
    if nat_le (run_count f x (value_plan s x r d ns ∷ ps)) cell_limit then first_run_above f ps
    else Some (x, run_count f x (value_plan s x r d ns ∷ ps))
