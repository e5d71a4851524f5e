use Rattle.ess_rules_laws.proofs.laws.component_rules_keep.Goals as goal
use Rattle.ess_rules_laws.proofs.ComponentRules.{equal_components-keeps}
use Rattle.ess_rules_laws.proofs.FieldRules.{equal_fields-keeps}

pub returns : goal.returns
returns c = record { equal_tuples = equal_components-keeps; equal_records = equal_fields-keeps }
