use Rattle.ess_ordered_laws.proofs.laws.sources_keep.Goals as goal
use Rattle.ess_ordered_laws.proofs.IndexedSources.{sources-keep}

pub returns : goal.returns
returns c = sources-keep
