use Rattle.ess_kind_types_laws.proofs.laws.set_rules_keep_types.Goals as goal
use Rattle.ess_kind_types_laws.proofs.SetsKeepTypes.{set-rules-keep-types}

pub returns : goal.returns
returns c = set-rules-keep-types
