use Rattle.ess_refine_laws.proofs.laws.alternatives_serve.Goals as goal
use Rattle.ess_refine_laws.proofs.ExtremeAlternatives.{alternatives-serve}

pub returns : goal.returns
returns c = alternatives-serve
