use Rattle.ess_ordered_laws.proofs.laws.items_are_numbered.Goals as goal
use Rattle.ess_ordered_laws.proofs.NumberedGenerators.{items-are-numbered}

pub returns : goal.returns
returns c = items-are-numbered
