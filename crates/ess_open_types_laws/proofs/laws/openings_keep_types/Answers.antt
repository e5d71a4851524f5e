use Rattle.ess_open_types_laws.proofs.laws.openings_keep_types.Goals as goal
use Rattle.ess_open_types_laws.proofs.OpeningsKeep.{openings-keep-types}

pub returns : goal.returns
returns c = openings-keep-types
