use Rattle.ess_guard_laws.proofs.laws.guarded_is_total.Goals as goal
use Rattle.ess_guard_laws.proofs.TotalLaws.{boolean-total}

pub returns : goal.returns
returns c = boolean-total
