use Rattle.ess_numbered_laws.proofs.laws.numbered_lists_keep.Goals as goal
use Rattle.ess_numbered_laws.proofs.NumberedSources.{lists-keep}

pub returns : goal.returns
returns c = lists-keep
