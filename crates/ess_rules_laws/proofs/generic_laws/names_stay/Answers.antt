use Rattle.ess_rules_laws.proofs.generic_laws.names_stay.Goals as goal
use Rattle.ess_rules_laws.proofs.NamesStay.{names-stay}

pub returns : goal.returns
returns c = names-stay
