use Rattle.ess_translate_header_laws.proofs.laws.written_headers_are_read.Goals as goal
use Rattle.ess_translate_header_laws.proofs.WrittenLines.{written_headers}

pub returns : goal.returns
returns c = written_headers
