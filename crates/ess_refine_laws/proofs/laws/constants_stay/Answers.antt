use Rattle.ess_refine_laws.proofs.laws.constants_stay.Goals as goal
use Rattle.ess_refine_laws.proofs.ConstantsStay.{constants-stay}

pub returns : goal.returns
returns c = constants-stay
