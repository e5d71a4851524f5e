use Rattle.ess_translate_header_laws.proofs.laws.written_headers_are_found.Goals as goal
use Rattle.ess_translate_header_laws.proofs.WrittenLines.{written_found}

pub returns : goal.returns
returns c = written_found
