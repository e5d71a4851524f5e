use Rattle.ess_kinds_kept_laws.proofs.laws.kind_rules_keep.Goals as goal
use Rattle.ess_kinds_kept_laws.proofs.KindRulesKeep.{kind-rules-keep}

pub returns : goal.returns
returns c = kind-rules-keep
