use Rattle.ess_lowered_laws.proofs.Written.{written-kept}
use Rattle.ess_lowered_laws.proofs.laws.written_trees_stay_lowerable.Goals as goal

pub returns : goal.returns
returns c = written-kept
