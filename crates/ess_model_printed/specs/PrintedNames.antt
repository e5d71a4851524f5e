-- Printed names, found one after the other.
use Rattle.std.specs.Prelude.{ℕ, zero, suc, Bool, true, false, not, Option, Some, None, List, [], ◌++◌, filter, codes, decimal}
use Rattle.ess_semantics.specs.Values.{Text}
use Rattle.ess_semantics.specs.Lists.{or_default, item_number}
use Rattle.ess_semantics.specs.Names.{is_among}
use Rattle.conjure_model_laws.specs.Printed.{q_names}

-- The name q with a number.
abbrev pub q : ℕ → Text
q k = codes "q" ++ decimal k

-- Of n of the names q1, q2, .., from the k-th on, the first that isn't taken, where as many as d of those are left out.
abbrev pub found : List Text → ℕ → ℕ → ℕ → Text
found taken n k d = or_default (item_number (filter (λ a. not (is_among taken a)) (q_names k n)) d) []

-- How many are left out behind a name, where it isn't the one.
abbrev pub passed : Bool → ℕ → Option ℕ
passed true d = Some d
passed false zero = None
passed false (suc d) = Some d
