use Rattle.ess_numbered_counted_laws.proofs.laws.numbers_are_counted_on.Goals as goal
use Rattle.ess_numbered_counted_laws.proofs.NumbersCounted.{numbers-are-counted-on}

pub returns : goal.returns
returns c = numbers-are-counted-on
