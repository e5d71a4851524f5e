use Rattle.ess_repr_laws.proofs.laws.channels_say_same.Goals as goal
use Rattle.ess_repr_laws.proofs.Channels.{channels-same}

pub returns : goal.returns
returns c = channels-same
