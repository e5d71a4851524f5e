use Rattle.ess_given_conditions_laws.proofs.laws.given_in_conditions.Goals as goal
use Rattle.ess_given_conditions_laws.proofs.GivenInConditions.{given-in-conditions}

pub returns : goal.returns
returns c = given-in-conditions
