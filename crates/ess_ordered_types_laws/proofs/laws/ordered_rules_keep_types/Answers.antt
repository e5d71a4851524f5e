use Rattle.ess_ordered_types_laws.proofs.laws.ordered_rules_keep_types.Goals as goal
use Rattle.ess_ordered_types_laws.proofs.OrderedKeep.{ordered-rules-keep-types}

pub returns : goal.returns
returns c = ordered-rules-keep-types
