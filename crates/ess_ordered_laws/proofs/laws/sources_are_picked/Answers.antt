use Rattle.ess_ordered_laws.proofs.laws.sources_are_picked.Goals as goal
use Rattle.ess_ordered_laws.proofs.PickedSources.{sources-are-picked}

pub returns : goal.returns
returns c = sources-are-picked
