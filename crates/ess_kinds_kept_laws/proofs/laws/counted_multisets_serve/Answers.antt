use Rattle.ess_kinds_kept_laws.proofs.laws.counted_multisets_serve.Goals as goal
use Rattle.ess_kinds_kept_laws.proofs.CountedMultisets.{counted-multisets-serve}

pub returns : goal.returns
returns c = counted-multisets-serve
