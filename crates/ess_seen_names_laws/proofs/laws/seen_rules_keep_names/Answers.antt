use Rattle.ess_seen_names_laws.proofs.Kept.{seen-rules-keep-names}
use Rattle.ess_seen_names_laws.proofs.laws.seen_rules_keep_names.Goals as goal

pub returns : goal.returns
returns c = seen-rules-keep-names
