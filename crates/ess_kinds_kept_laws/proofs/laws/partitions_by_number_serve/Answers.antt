use Rattle.ess_kinds_kept_laws.proofs.laws.partitions_by_number_serve.Goals as goal
use Rattle.ess_kinds_kept_laws.proofs.TogetherRule.{partitions-serve}

pub returns : goal.returns
returns c = partitions-serve
