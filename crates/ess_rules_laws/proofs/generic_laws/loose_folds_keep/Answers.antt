use Rattle.ess_rules_laws.proofs.generic_laws.loose_folds_keep.Goals as goal
use Rattle.ess_rules_laws.proofs.LooseRules.{loosely-keeps}

pub returns : goal.returns
returns c = loosely-keeps
