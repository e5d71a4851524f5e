use Rattle.ess_refine_laws.proofs.laws.numbers_are_spared.Goals as goal
use Rattle.ess_refine_laws.proofs.NumbersAreSpared.{numbers-are-spared}

pub returns : goal.returns
returns c = numbers-are-spared
