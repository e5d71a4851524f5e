use Rattle.ess_given_opened_laws.proofs.laws.openings_keep_given.Goals as goal
use Rattle.ess_given_opened_laws.proofs.OpenedOrder.{opened-stays}

pub returns : goal.returns
returns c = opened-stays
