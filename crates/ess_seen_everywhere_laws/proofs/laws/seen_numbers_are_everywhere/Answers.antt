use Rattle.ess_seen_everywhere_laws.proofs.laws.seen_numbers_are_everywhere.Goals as goal
use Rattle.ess_seen_everywhere_laws.proofs.SeenNumbers.{seen-numbers-are-everywhere}

pub returns : goal.returns
returns c = seen-numbers-are-everywhere
