use Rattle.ess_seen_rules_laws.proofs.Known.{types}
use Rattle.ess_seen_rules_laws.proofs.Few.{few-rules-fire}
use Rattle.ess_seen_rules_laws.proofs.laws.few_rules_fire.Goals as goal

pub returns : goal.returns
returns c = few-rules-fire types
