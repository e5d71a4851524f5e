use Rattle.ess_translate_plans_laws.proofs.laws.plans_come_in_order.Goals as goal
use Rattle.ess_translate_plans_laws.proofs.InOrder.{come-in-order}

pub returns : goal.returns
returns c = come-in-order
