use Rattle.ess_given_order_laws.proofs.laws.given_stays_in_conditions.Goals as goal
use Rattle.ess_given_order_laws.proofs.OrderInScope.{given-stays-in-conditions}

pub returns : goal.returns
returns c = given-stays-in-conditions
