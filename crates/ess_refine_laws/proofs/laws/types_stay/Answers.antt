use Rattle.ess_refine_laws.proofs.laws.types_stay.Goals as goal
use Rattle.ess_refine_laws.proofs.TypesStay.{types-stay}

pub returns : goal.returns
returns c = types-stay
