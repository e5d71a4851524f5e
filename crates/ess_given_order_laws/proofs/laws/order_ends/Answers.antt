use Rattle.ess_given_order_laws.proofs.laws.order_ends.Goals as goal
use Rattle.ess_given_order_laws.proofs.OrderEnds.{order-ends}

pub returns : goal.returns
returns c = order-ends
