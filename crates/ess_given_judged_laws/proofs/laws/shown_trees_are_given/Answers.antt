use Rattle.ess_given_judged_laws.proofs.laws.shown_trees_are_given.Goals as goal
use Rattle.ess_given_judged_laws.proofs.ShownGiven.{shown-trees-are-given}

pub returns : goal.returns
returns c = shown-trees-are-given
