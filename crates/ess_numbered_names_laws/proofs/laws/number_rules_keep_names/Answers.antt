use Rattle.ess_numbered_names_laws.proofs.laws.number_rules_keep_names.Goals as goal
use Rattle.ess_numbered_names_laws.proofs.NumberedNames.{number-rules-keep-names}

pub returns : goal.returns
returns c = number-rules-keep-names
