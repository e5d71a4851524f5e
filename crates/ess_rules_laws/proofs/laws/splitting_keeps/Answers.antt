use Rattle.ess_rules_laws.proofs.laws.splitting_keeps.Goals as goal
use Rattle.ess_rules_laws.proofs.SplitRules.{split-keeps}

pub returns : goal.returns
returns c = split-keeps
