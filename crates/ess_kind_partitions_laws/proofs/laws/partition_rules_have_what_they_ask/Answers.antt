use Rattle.ess_kind_partitions_laws.proofs.laws.partition_rules_have_what_they_ask.Goals as goal
use Rattle.ess_kind_partitions_laws.proofs.PartitionsAsked.{partition-rules-have}

pub returns : goal.returns
returns c = partition-rules-have
