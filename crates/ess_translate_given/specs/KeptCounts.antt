-- Numbers of cells that are kept at a limit, in the order of the plans.
use Rattle.std.specs.Prelude.{ℕ, ◌+◌, if◌then◌else◌, List, [], ◌∷◌, Option, Some, None, nat_le, option_map}
use Rattle.ess_semantics.specs.Lists.{or_default}
use Rattle.ess_semantics.specs.Values.{Text}
use Rattle.ess_semantics.specs.Domains.{Domain}
use Rattle.ess_semantics.specs.Declarations.{cell_count}
use Rattle.ess_semantics.specs.Plans.{Plan, size_plan, value_plan, is_plan_for}
use Rattle.ess_domains_cells.specs.Kept.{kept}
use Rattle.ess_translate_given_laws.specs.Counts.{cell_limit}

-- The number of cells of a plan with this domain.
abbrev pub count_at : Plan → Option Domain → ℕ
count_at (size_plan t a) o = 1
count_at (value_plan f x r d ns) o = or_default (option_map (cell_count r) o) 0

-- The numbers of plans with these domains, kept, as far as both go.
abbrev pub counts_of : List Plan → List (Option Domain) → List ℕ
counts_of (p ∷ ps) (o ∷ os) = kept (count_at p o) ∷ counts_of ps os
counts_of _ _ = []

-- A number with those of the plans of a name with which the list begins, kept.
abbrev pub run_from : Text → ℕ → List Plan → List ℕ → ℕ
run_from x n (p ∷ ps) (m ∷ ms) = if is_plan_for x p then run_from x (kept (n + m)) ps ms else n
run_from x n _ _ = n

-- The first plan from which on the plans of its name have a kept number above the limit, with the name and the number.
abbrev pub first_kept_above : List Plan → List ℕ → Option (Text × ℕ)
first_kept_above (size_plan t a ∷ ps) (m ∷ ms) = first_kept_above ps ms
first_kept_above (value_plan f x r d ns ∷ ps) (m ∷ ms) =
    if nat_le (run_from x m ps ms) cell_limit then first_kept_above ps ms else Some (x, run_from x m ps ms)
first_kept_above _ _ = None

-- The number of a plan with those behind it of its name, where it is above the limit.
abbrev pub total_above : Plan → ℕ → List Plan → List ℕ → Option ℕ
total_above (size_plan t a) m ps ms = None
total_above (value_plan f x r d ns) m ps ms = if nat_le (run_from x m ps ms) cell_limit then None else Some (run_from x m ps ms)

-- The name of a plan of a given or find, with this number.
abbrev pub named_total : Plan → ℕ → Option (Text × ℕ)
named_total (size_plan t a) n = None
named_total (value_plan f x r d ns) n = Some (x, n)

-- The number kept, beside its name.
abbrev pub kept_beside : Text × ℕ → Text × ℕ
kept_beside x = (x.0, kept x.1)
