use Rattle.ess_more_valued_laws.proofs.laws.more_chains_keep.Goals as goal
use Rattle.ess_more_valued_laws.proofs.MoreChains.{more-chains-keep}

pub returns : goal.returns
returns c = more-chains-keep
