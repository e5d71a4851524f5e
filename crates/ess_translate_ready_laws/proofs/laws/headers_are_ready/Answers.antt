use Rattle.ess_translate_ready_laws.proofs.laws.headers_are_ready.Goals as goal
use Rattle.ess_translate_ready_laws.proofs.ReadyHeaders.{headers-are-ready}

pub returns : goal.returns
returns c = headers-are-ready
