use Rattle.ess_types_laws.proofs.laws.patterns_bind_their_types.Goals as goal
use Rattle.ess_types_laws.proofs.SoundEnvs.{bound-typed}

pub returns : goal.returns
returns c = bound-typed
