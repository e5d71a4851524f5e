-- The pure domain of a domain whose bounds are numbers.
use Rattle.std.specs.Prelude.{map}
use Rattle.ess_semantics.specs.Domains.{Domain, booleans, integers}
use Rattle.eprime_eval_scalars.specs.Runs.{pure_run}
use Rattle.eprime_eval.specs.declared.members.Closed.{Closed}
use Rattle.eprime_eval.specs.declared.members.Closed.TheVariants.{Truths, Numbers}

-- The pure domain.
abbrev pub pure_closed : Closed → Domain
pure_closed Truths = booleans
pure_closed (Numbers rs) = integers (map pure_run rs)
