use Rattle.ess_given_order_laws.proofs.laws.order_stays.Goals as goal
use Rattle.ess_given_order_laws.proofs.OrderStays.{order-stays}

pub returns : goal.returns
returns c = order-stays
