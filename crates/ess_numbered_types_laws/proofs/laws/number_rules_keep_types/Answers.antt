use Rattle.ess_numbered_types_laws.proofs.laws.number_rules_keep_types.Goals as goal
use Rattle.ess_numbered_types_laws.proofs.NumberedKeep.{number-rules-keep-types}

pub returns : goal.returns
returns c = number-rules-keep-types
