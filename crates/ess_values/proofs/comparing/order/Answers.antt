use Rattle.ess_values.proofs.EqualValues.{equal-exactly}
use Rattle.ess_values.proofs.comparing.order.Goals as goal

pub returns-clause-equal : goal.returns-clause-equal
returns-clause-equal c = equal-exactly c.args.a.now c.args.b.now c.order_val.result c.order_val.ensures
