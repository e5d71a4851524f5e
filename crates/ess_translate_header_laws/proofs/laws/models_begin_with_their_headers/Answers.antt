use Rattle.ess_translate_header_laws.proofs.laws.models_begin_with_their_headers.Goals as goal
use Rattle.ess_translate_header_laws.proofs.ModelHeaders.{begins-with-its-header}

pub returns : goal.returns
returns c = begins-with-its-header
