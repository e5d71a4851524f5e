use Rattle.ess_rules_laws.proofs.generic_laws.operators_have_rules.Goals as goal
use Rattle.ess_rules_laws.proofs.Progress.{operators-have}

pub returns : goal.returns
returns c = operators-have
