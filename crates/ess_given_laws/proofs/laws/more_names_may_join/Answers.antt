use Rattle.ess_given_laws.proofs.laws.more_names_may_join.Goals as goal
use Rattle.ess_given_laws.proofs.MoreNames.{more-names-may-join}

pub returns : goal.returns
returns c = more-names-may-join
