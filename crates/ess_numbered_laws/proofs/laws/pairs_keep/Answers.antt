use Rattle.ess_numbered_laws.proofs.laws.pairs_keep.Goals as goal
use Rattle.ess_numbered_laws.proofs.NumberedSources.{pairs-keep}

pub returns : goal.returns
returns c = pairs-keep
