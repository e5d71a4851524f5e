use Rattle.ess_given_specifications_laws.proofs.laws.specifications_stay_given.Goals as goal
use Rattle.ess_given_specifications_laws.proofs.SpecificationsStayGiven.{specifications-stay-given}

pub returns : goal.returns
returns c = specifications-stay-given
