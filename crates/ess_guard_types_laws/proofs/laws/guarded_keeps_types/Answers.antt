use Rattle.ess_guard_types_laws.proofs.laws.guarded_keeps_types.Goals as goal
use Rattle.ess_guard_types_laws.proofs.TypesStay.{types-stay}

pub returns : goal.returns
returns c = types-stay
