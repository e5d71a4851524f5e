use Rattle.ess_seen_values_laws.proofs.laws.seen_rules_keep.Goals as goal
use Rattle.ess_seen_values_laws.proofs.SeenRulesKeep.{seen-rules-keep}

pub returns : goal.returns
returns c = seen-rules-keep
