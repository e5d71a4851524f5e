use Rattle.ess_translate_header_laws.proofs.laws.a_text_has_one_header.Goals as goal
use Rattle.ess_translate_header_laws.proofs.OneHeader.{one-header}

pub returns : goal.returns
returns c = one-header
