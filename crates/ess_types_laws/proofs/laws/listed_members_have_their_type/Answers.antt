use Rattle.ess_types_laws.proofs.laws.listed_members_have_their_type.Goals as goal
use Rattle.ess_types_laws.proofs.SoundEnvs.{members-typed}

pub returns : goal.returns
returns c = members-typed
