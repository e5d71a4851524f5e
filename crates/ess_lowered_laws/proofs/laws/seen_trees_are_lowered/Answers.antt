use Rattle.ess_lowered_laws.proofs.Seen.{seen-lowered}
use Rattle.ess_lowered_laws.proofs.laws.seen_trees_are_lowered.Goals as goal

pub returns : goal.returns
returns c = seen-lowered
