use Rattle.ess_semantics.proofs.laws.stood_for_is_solution.Goals as goal
use Rattle.ess_semantics.proofs.Truths.{composed}

pub returns : goal.returns
returns c = composed
