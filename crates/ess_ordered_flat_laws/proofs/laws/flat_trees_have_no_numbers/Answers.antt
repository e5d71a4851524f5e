use Rattle.ess_ordered_flat_laws.proofs.laws.flat_trees_have_no_numbers.Goals as goal
use Rattle.ess_ordered_flat_laws.proofs.FlatNumbered.{flat-trees-have-no-numbers}

pub returns : goal.returns
returns c = flat-trees-have-no-numbers
