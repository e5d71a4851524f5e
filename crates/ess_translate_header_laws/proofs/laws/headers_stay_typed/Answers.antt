use Rattle.ess_translate_header_laws.proofs.laws.headers_stay_typed.Goals as goal
use Rattle.ess_translate_header_laws.proofs.HeadersTyped.{headers-stay-typed}

pub returns : goal.returns
returns c = headers-stay-typed
