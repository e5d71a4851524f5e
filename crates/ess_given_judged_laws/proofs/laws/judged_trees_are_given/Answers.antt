use Rattle.ess_given_judged_laws.proofs.laws.judged_trees_are_given.Goals as goal
use Rattle.ess_given_judged_laws.proofs.JudgedGiven.{judged-trees-are-given}

pub returns : goal.returns
returns c = judged-trees-are-given
