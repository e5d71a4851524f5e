use Rattle.ess_rules_types_laws.proofs.laws.other_rules_keep_types.Goals as goal
use Rattle.ess_rules_types_laws.proofs.TypesOfOthers.{other-rules-keep-types}

pub returns : goal.returns
returns c = other-rules-keep-types
