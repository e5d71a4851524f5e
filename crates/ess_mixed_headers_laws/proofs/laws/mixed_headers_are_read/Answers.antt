use Rattle.ess_mixed_headers_laws.proofs.MixedHeaders.{mixed-headers-are-read}
use Rattle.ess_mixed_headers_laws.proofs.laws.mixed_headers_are_read.Goals as goal

pub returns : goal.returns
returns c = mixed-headers-are-read
