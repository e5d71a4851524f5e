use Rattle.ess_refine_laws.proofs.laws.scopes_stay.Goals as goal
use Rattle.ess_refine_laws.proofs.ScopesStay.{scopes-stay}

pub returns : goal.returns
returns c = scopes-stay
