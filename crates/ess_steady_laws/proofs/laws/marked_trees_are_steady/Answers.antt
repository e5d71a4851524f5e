use Rattle.ess_steady_laws.proofs.laws.marked_trees_are_steady.Goals as goal
use Rattle.ess_steady_laws.proofs.SteadyTrees.{marked-trees-are-steady}

pub returns : goal.returns
returns c = marked-trees-are-steady
