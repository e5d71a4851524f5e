use Rattle.ess_given_throughout_laws.proofs.laws.given_stays_throughout.Goals as goal
use Rattle.ess_given_throughout_laws.proofs.GivenThroughout.{given-throughout}

pub returns : goal.returns
returns c = given-throughout
