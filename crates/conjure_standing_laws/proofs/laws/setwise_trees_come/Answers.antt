use Rattle.conjure_standing_laws.proofs.SetwiseLaws.{setwise-trees-come}
use Rattle.conjure_standing_laws.proofs.laws.setwise_trees_come.Goals as goal

pub returns : goal.returns
returns c = setwise-trees-come
