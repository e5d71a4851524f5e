use Rattle.ess_given_laws.proofs.laws.given_stays.Goals as goal
use Rattle.ess_given_laws.proofs.GivenStays.{given-stays}

pub returns : goal.returns
returns c = given-stays
