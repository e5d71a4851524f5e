use Rattle.ess_refine_laws.proofs.laws.lists_are_indices.Goals as goal
use Rattle.ess_refine_laws.proofs.IndexedLists.{lists-are-indices}

pub returns : goal.returns
returns c = lists-are-indices
