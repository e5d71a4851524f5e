use Rattle.ess_repr_kinds_laws.proofs.laws.channels_of_fitting_tables.Goals as goal
use Rattle.ess_repr_kinds_laws.proofs.TruthChannels.{fitting-channels}

pub returns : goal.returns
returns c = fitting-channels
