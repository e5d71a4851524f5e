use Rattle.ess_given_conditions_laws.proofs.laws.told_trees_are_given.Goals as goal
use Rattle.ess_given_conditions_laws.proofs.ToldTrees.{told-trees-are-given}

pub returns : goal.returns
returns c = told-trees-are-given
