use Rattle.ess_given_judged_laws.proofs.laws.specifications_are_given.Goals as goal
use Rattle.ess_given_judged_laws.proofs.SpecificationsGiven.{specifications-given}

pub returns : goal.returns
returns c = specifications-given
