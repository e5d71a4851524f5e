use Rattle.ess_simplify_laws.proofs.laws.simpler_roots_keep.Goals as goal
use Rattle.ess_simplify_laws.proofs.RootMeanings.{simpler-roots-keep}

pub returns : goal.returns
returns c = simpler-roots-keep
