use Rattle.ess_kind_chains_laws.proofs.laws.set_chains_keep.Goals as goal
use Rattle.ess_kind_chains_laws.proofs.SetChains.{set-chains-keep}

pub returns : goal.returns
returns c = set-chains-keep
