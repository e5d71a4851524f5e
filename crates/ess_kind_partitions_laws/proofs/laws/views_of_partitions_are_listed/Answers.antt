use Rattle.ess_kind_partitions_laws.proofs.laws.views_of_partitions_are_listed.Goals as goal
use Rattle.ess_kind_partitions_laws.proofs.PartitionSources.{partitions-are-listed}

pub returns : goal.returns
returns c = partitions-are-listed
