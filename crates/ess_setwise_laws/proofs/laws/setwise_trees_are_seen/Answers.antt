use Rattle.ess_setwise_laws.proofs.SetwiseLaws.{setwise-trees-are-seen}
use Rattle.ess_setwise_laws.proofs.laws.setwise_trees_are_seen.Goals as goal

pub returns : goal.returns
returns c = setwise-trees-are-seen
