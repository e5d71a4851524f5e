use Rattle.ess_kind_values_laws.proofs.laws.set_rules_keep_values.Goals as goal
use Rattle.ess_kind_values_laws.proofs.SetsKeepValues.{set-rules-keep-values}

pub returns : goal.returns
returns c = set-rules-keep-values
