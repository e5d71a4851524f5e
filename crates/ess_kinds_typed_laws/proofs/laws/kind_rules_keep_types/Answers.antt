use Rattle.ess_kinds_typed_laws.proofs.laws.kind_rules_keep_types.Goals as goal
use Rattle.ess_kinds_typed_laws.proofs.KindsKeepTypes.{kind-rules-keep-types}

pub returns : goal.returns
returns c = kind-rules-keep-types
