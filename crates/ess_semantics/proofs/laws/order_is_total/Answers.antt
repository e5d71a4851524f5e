use Rattle.ess_semantics.proofs.laws.order_is_total.Goals as goal
use Rattle.ess_semantics.proofs.Orders.{order_total, order_exact}

pub returns : goal.returns
returns c = record { total = order_total; exact = order_exact }
