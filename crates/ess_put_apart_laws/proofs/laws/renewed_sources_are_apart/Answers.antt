use Rattle.ess_put_apart_laws.proofs.laws.renewed_sources_are_apart.Goals as goal
use Rattle.ess_put_apart_laws.proofs.RenewedApart.{renewed-sources-are-apart}

pub returns : goal.returns
returns c = renewed-sources-are-apart
