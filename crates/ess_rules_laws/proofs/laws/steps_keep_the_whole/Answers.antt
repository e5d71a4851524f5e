use Rattle.ess_rules_laws.proofs.laws.steps_keep_the_whole.Goals as goal
use Rattle.ess_rules_laws.proofs.KeptUnder.{step-here}

pub returns : goal.returns
returns c = step-here
