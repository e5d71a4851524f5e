use Rattle.ess_rules_laws.proofs.laws.splicing_keeps.Goals as goal
use Rattle.ess_rules_laws.proofs.SpliceRules.{splice-keeps}

pub returns : goal.returns
returns c = splice-keeps
