use Rattle.ess_types_laws.proofs.laws.resolved_trees_stay.Goals as goal
use Rattle.ess_types_laws.proofs.Resolved.{resolved-again}

pub returns : goal.returns
returns c = resolved-again
