use Rattle.ess_rules_laws.proofs.view_laws.steps_come_apart.Goals as goal
use Rattle.ess_rules_laws.proofs.IndexSteps.{steps-apart}

pub returns : goal.returns
returns c = steps-apart
