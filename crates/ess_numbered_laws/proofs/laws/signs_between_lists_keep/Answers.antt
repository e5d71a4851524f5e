use Rattle.ess_numbered_laws.proofs.laws.signs_between_lists_keep.Goals as goal
use Rattle.ess_numbered_laws.proofs.OrderKeeps.{order-keeps}

pub returns : goal.returns
returns c = order-keeps
