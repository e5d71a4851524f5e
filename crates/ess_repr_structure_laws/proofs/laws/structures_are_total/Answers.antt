use Rattle.ess_repr_structure_laws.proofs.laws.structures_are_total.Goals as goal
use Rattle.ess_repr_structure_laws.proofs.TotalViews.{structures-total}

pub returns : goal.returns
returns c = structures-total
