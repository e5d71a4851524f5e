use Rattle.ess_ordered_counted_laws.proofs.laws.orders_are_counted_on.Goals as goal
use Rattle.ess_ordered_counted_laws.proofs.OrderedCounted.{orders-are-counted-on}

pub returns : goal.returns
returns c = orders-are-counted-on
