-- The env in which a part below generators has its meaning: the names that they have bound, and tables.
use Rattle.std.specs.Prelude.{true, List, [], map, reverse}
use Rattle.ess_semantics.specs.Values.{Text, Value}
use Rattle.ess_semantics.specs.Names.{Names}
use Rattle.ess_semantics.specs.Meaning.{Env}
use Rattle.eprime_eval_scalars.specs.ScalarViews.{pure_scalar}
use Rattle.eprime_eval.specs.declared.known.Known.{Known}
use Rattle.eprime_eval.specs.declared.names.Bound.{Bound}
use Rattle.eprime_eval.specs.KnownTables.{cells_of}

-- A bound name with its value.
abbrev pub pure_bound : Bound → Text × Value
pure_bound b = (b.name, pure_scalar b.value)

-- The bound names, the newest first.
abbrev pub bound_values : List Bound → Names Value
bound_values bs = map pure_bound (reverse bs)

-- The env.
abbrev pub env_at : Known → List Bound → Env
env_at k bs = record { positions = true; types = []; vals = bound_values bs; cells = cells_of k }
