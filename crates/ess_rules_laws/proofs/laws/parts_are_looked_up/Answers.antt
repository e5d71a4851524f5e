use Rattle.ess_rules_laws.proofs.laws.parts_are_looked_up.Goals as goal
use Rattle.ess_rules_laws.proofs.MatrixLookups.{parts-looked}

pub returns : goal.returns
returns c = parts-looked
