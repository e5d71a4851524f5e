use Rattle.ess_types_laws.proofs.laws.meanings_over_tables_have_their_type.Goals as goal
use Rattle.ess_types_laws.proofs.SoundEnvs.{tables-typed}

pub returns : goal.returns
returns c = tables-typed
