use Rattle.ess_given_conditions_laws.proofs.laws.index_domains_are_given.Goals as goal
use Rattle.ess_given_conditions_laws.proofs.GivenAxes.{index-domains-are-given}

pub returns : goal.returns
returns c = index-domains-are-given
