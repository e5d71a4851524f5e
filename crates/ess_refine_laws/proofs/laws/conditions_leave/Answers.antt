use Rattle.ess_refine_laws.proofs.laws.conditions_leave.Goals as goal
use Rattle.ess_refine_laws.proofs.LeavingConditions.{conditions-leave}

pub returns : goal.returns
returns c = conditions-leave
