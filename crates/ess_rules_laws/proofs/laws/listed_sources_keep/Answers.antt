use Rattle.ess_rules_laws.proofs.laws.listed_sources_keep.Goals as goal
use Rattle.ess_rules_laws.proofs.ListedSources.{listed_sources-keep}

pub returns : goal.returns
returns c = listed_sources-keep
