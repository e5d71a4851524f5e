use Rattle.ess_ordered_kept_laws.proofs.laws.ordered_rules_keep.Goals as goal
use Rattle.ess_ordered_kept_laws.proofs.OrderedRulesKeep.{ordered-rules-keep}

pub returns : goal.returns
returns c = ordered-rules-keep
