use Rattle.ess_valued_chains_laws.proofs.laws.valued_chains_keep.Goals as goal
use Rattle.ess_valued_chains_laws.proofs.ValuedChains.{valued-chains-keep}

pub returns : goal.returns
returns c = valued-chains-keep
