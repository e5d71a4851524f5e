use Rattle.ess_translate_given_laws.proofs.laws.headers_fit.Goals as goal
use Rattle.ess_translate_given_laws.proofs.ReadyHeaders.{headers-fit}

pub returns : goal.returns
returns c = headers-fit
