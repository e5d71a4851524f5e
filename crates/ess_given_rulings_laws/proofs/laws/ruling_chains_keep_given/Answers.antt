use Rattle.ess_given_rulings_laws.proofs.laws.ruling_chains_keep_given.Goals as goal
use Rattle.ess_given_rulings_laws.proofs.RulingChains.{ruling-chains-keep-given}

pub returns : goal.returns
returns c = ruling-chains-keep-given
