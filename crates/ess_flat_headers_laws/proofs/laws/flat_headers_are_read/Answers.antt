use Rattle.ess_flat_headers_laws.proofs.FlatHeaders.{flat-headers-are-read}
use Rattle.ess_flat_headers_laws.proofs.laws.flat_headers_are_read.Goals as goal

pub returns : goal.returns
returns c = flat-headers-are-read
