use Rattle.ess_given_ordered_laws.proofs.laws.items_keep_given.Goals as goal
use Rattle.ess_given_ordered_laws.proofs.OrderedStays.{ordered-stays}

pub returns : goal.returns
returns c = ordered-stays
