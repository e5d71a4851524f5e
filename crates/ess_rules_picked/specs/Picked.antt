-- The terms at one index, and what picks a value, by the steps and the operands.
use Rattle.std.specs.Prelude.{Bool, true, false, List, [], ◌∷◌, Option, Some, None, if◌then◌else◌}
use Rattle.ess_semantics.specs.Trees.{Step, by_value, index, Ex, Exs, node_ex, no_exs, more_exs}
use Rattle.ess_kind_rules_laws.specs.TermLookups.{picks}

-- Whether the only operand picks a value.
abbrev pub picks_alone : Exs → Bool
picks_alone (more_exs t no_exs) = picks t
picks_alone es = false

-- Whether an index picks a value.
abbrev pub picks_at : List Step → Exs → Bool
picks_at (by_value ∷ []) es = true
picks_at (q ∷ []) es = picks_alone es
picks_at qs es = false

-- Whether there is one step.
abbrev pub has_one_step : List Step → Bool
has_one_step (q ∷ []) = true
has_one_step qs = false

-- The first operand, where it is picked.
abbrev pub within_at : Exs → Option Ex
within_at (more_exs t es) = if picks t then Some t else None
within_at no_exs = None

-- The term and its one index.
abbrev pub indexed : Ex → Option (Ex × Ex)
indexed (node_ex b (index (by_value ∷ [])) (more_exs v (more_exs a no_exs))) = Some (v, a)
indexed e = None
