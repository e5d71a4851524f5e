use Rattle.ess_ordered_names_laws.proofs.laws.ordered_rules_keep_names.Goals as goal
use Rattle.ess_ordered_names_laws.proofs.OrderedNames.{ordered-rules-keep-names}

pub returns : goal.returns
returns c = ordered-rules-keep-names
