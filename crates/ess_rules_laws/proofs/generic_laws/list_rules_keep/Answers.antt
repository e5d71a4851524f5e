use Rattle.ess_rules_laws.proofs.generic_laws.list_rules_keep.Goals as goal
use Rattle.ess_rules_laws.proofs.ListRules.{lists-keep}

pub returns : goal.returns
returns c = lists-keep
