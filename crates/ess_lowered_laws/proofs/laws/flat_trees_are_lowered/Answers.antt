use Rattle.ess_lowered_laws.proofs.Flat.{flat-lowered}
use Rattle.ess_lowered_laws.proofs.laws.flat_trees_are_lowered.Goals as goal

pub returns : goal.returns
returns c = flat-lowered
