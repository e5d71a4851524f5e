use Rattle.ess_rules_laws.proofs.generic_laws.condition_rules_keep.Goals as goal
use Rattle.ess_rules_laws.proofs.ConditionRules.{conditions-keep}

pub returns : goal.returns
returns c = conditions-keep
