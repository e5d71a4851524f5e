use Rattle.ess_refine_laws.proofs.laws.items_are_offered_once.Goals as goal
use Rattle.ess_refine_laws.proofs.ItemsOnce.{items-once}

pub returns : goal.returns
returns c = items-once
