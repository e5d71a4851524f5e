use Rattle.ess_given_laws.proofs.laws.given_ends.Goals as goal
use Rattle.ess_given_laws.proofs.GivenEnds.{given-ends}

pub returns : goal.returns
returns c = given-ends
