use Rattle.ess_lowered_laws.proofs.Ended.{ended-lowered}
use Rattle.ess_lowered_laws.proofs.laws.ended_trees_are_lowered.Goals as goal

pub returns : goal.returns
returns c = ended-lowered
