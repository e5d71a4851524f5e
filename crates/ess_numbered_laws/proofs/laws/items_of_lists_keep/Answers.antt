use Rattle.ess_numbered_laws.proofs.laws.items_of_lists_keep.Goals as goal
use Rattle.ess_numbered_laws.proofs.NumberedSources.{items-keep}

pub returns : goal.returns
returns c = items-keep
