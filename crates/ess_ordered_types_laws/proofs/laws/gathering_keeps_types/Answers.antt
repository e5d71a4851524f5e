use Rattle.ess_ordered_types_laws.proofs.laws.gathering_keeps_types.Goals as goal
use Rattle.ess_ordered_types_laws.proofs.GatheringKeeps.{gathering-keeps-types}

pub returns : goal.returns
returns c = gathering-keeps-types
