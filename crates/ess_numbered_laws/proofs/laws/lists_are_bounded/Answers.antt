use Rattle.ess_numbered_laws.proofs.laws.lists_are_bounded.Goals as goal
use Rattle.ess_numbered_laws.proofs.MostBound.{most-items-bound}

pub returns : goal.returns
returns c = most-items-bound
