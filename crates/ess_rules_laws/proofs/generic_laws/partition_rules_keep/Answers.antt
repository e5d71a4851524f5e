use Rattle.ess_rules_laws.proofs.generic_laws.partition_rules_keep.Goals as goal
use Rattle.ess_rules_laws.proofs.PartitionRules.{equal_parts-keeps}

pub returns : goal.returns
returns c = record { equal_partitions = equal_parts-keeps }
