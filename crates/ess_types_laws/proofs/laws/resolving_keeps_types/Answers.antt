use Rattle.ess_types_laws.proofs.laws.resolving_keeps_types.Goals as goal
use Rattle.ess_types_laws.proofs.ResolvedTypes.{type-resolved}

pub returns : goal.returns
returns c = type-resolved
