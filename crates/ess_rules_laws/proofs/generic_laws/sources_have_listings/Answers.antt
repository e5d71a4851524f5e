use Rattle.ess_rules_laws.proofs.generic_laws.sources_have_listings.Goals as goal
use Rattle.ess_rules_laws.proofs.SourceProgress.{sources-have}

pub returns : goal.returns
returns c = sources-have
