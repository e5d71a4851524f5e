use Rattle.ess_rules_laws.proofs.laws.unused_names_change_nothing.Goals as goal
use Rattle.ess_rules_laws.proofs.FreeNames.{meaning-unfree}

pub returns : goal.returns
returns c = meaning-unfree
