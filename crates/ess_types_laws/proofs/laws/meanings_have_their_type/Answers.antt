use Rattle.ess_types_laws.proofs.laws.meanings_have_their_type.Goals as goal
use Rattle.ess_types_laws.proofs.SoundEnvs.{meaning-typed}

pub returns : goal.returns
returns c = meaning-typed
