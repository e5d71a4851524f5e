use Rattle.ess_chain_anew_laws.proofs.laws.renewed_chains_keep.Goals as goal
use Rattle.ess_chain_anew_laws.proofs.RenewedChains.{renewed-chains-keep}

pub returns : goal.returns
returns c = renewed-chains-keep
