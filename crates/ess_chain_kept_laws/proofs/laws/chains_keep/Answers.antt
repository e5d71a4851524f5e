use Rattle.ess_chain_kept_laws.proofs.laws.chains_keep.Goals as goal
use Rattle.ess_chain_kept_laws.proofs.KeptChains.{chains-keep}

pub returns : goal.returns
returns c = chains-keep
