use Rattle.ess_types_laws.proofs.laws.types_stay.Goals as goal
use Rattle.ess_types_laws.proofs.SoundEnvs.{over-typed, from-typed}

pub returns : goal.returns
returns c = record { over_domains = over-typed; from_sources = from-typed }
