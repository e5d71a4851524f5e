use Rattle.ess_refine_laws.proofs.laws.trees_make_progress.Goals as goal
use Rattle.ess_refine_laws.proofs.Progress.{trees-make-progress}

pub returns : goal.returns
returns c = trees-make-progress
