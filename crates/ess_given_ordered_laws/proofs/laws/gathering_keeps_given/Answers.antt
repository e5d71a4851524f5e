use Rattle.ess_given_ordered_laws.proofs.laws.gathering_keeps_given.Goals as goal
use Rattle.ess_given_ordered_laws.proofs.OrderedStays.{gathering-stays}

pub returns : goal.returns
returns c = gathering-stays
