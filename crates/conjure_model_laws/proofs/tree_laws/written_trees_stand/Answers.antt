use Rattle.conjure_model_laws.proofs.tree_laws.written_trees_stand.Goals as goal
use Rattle.conjure_model_laws.proofs.WrittenLaws.{written-trees-stand}

pub returns : goal.returns
returns c = written-trees-stand
