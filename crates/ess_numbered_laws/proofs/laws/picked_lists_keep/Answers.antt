use Rattle.ess_numbered_laws.proofs.laws.picked_lists_keep.Goals as goal
use Rattle.ess_numbered_laws.proofs.ListedSources.{picked-lists-keep}

pub returns : goal.returns
returns c = picked-lists-keep
