use Rattle.ess_chain_names_laws.proofs.laws.chains_spare_names.Goals as goal
use Rattle.ess_chain_names_laws.proofs.SparedNames.{chains-spare-names}

pub returns : goal.returns
returns c = chains-spare-names
