use Rattle.ess_given_conditions_laws.proofs.laws.chains_keep_given.Goals as goal
use Rattle.ess_given_conditions_laws.proofs.GivenChains.{chains-keep-given}

pub returns : goal.returns
returns c = chains-keep-given
