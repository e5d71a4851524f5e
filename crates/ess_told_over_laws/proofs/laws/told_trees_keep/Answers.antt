use Rattle.ess_told_over_laws.proofs.laws.told_trees_keep.Goals as goal
use Rattle.ess_told_over_laws.proofs.ToldMeets.{told-trees-keep}

pub returns : goal.returns
returns c = told-trees-keep
