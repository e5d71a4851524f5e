use Rattle.ess_refine_laws.proofs.laws.rules_spare.Goals as goal
use Rattle.ess_refine_laws.proofs.RulesSpare.{rules-spare}

pub returns : goal.returns
returns c = rules-spare
