use Rattle.ess_ordered_flat_laws.proofs.laws.flat_trees_have_no_order.Goals as goal
use Rattle.ess_ordered_flat_laws.proofs.FlatOrdered.{flat-trees-have-no-order}

pub returns : goal.returns
returns c = flat-trees-have-no-order
