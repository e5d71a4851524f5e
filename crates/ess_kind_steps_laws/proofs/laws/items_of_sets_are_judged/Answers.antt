use Rattle.ess_kind_steps_laws.proofs.laws.items_of_sets_are_judged.Goals as goal
use Rattle.ess_kind_steps_laws.proofs.JudgedItems.{items-of-sets-are-judged}

pub returns : goal.returns
returns c = items-of-sets-are-judged
