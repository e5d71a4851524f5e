use Rattle.ess_open_kept_laws.proofs.laws.open_rules_keep.Goals as goal
use Rattle.ess_open_kept_laws.proofs.OpenRulesKeep.{open-rules-keep}

pub returns : goal.returns
returns c = open-rules-keep
