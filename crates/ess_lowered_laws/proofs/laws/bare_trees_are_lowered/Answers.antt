use Rattle.ess_lowered_laws.proofs.Ended.{bare-lowered}
use Rattle.ess_lowered_laws.proofs.laws.bare_trees_are_lowered.Goals as goal

pub returns : goal.returns
returns c = bare-lowered
