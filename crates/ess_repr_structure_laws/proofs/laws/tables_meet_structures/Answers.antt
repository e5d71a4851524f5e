use Rattle.ess_repr_structure_laws.proofs.laws.tables_meet_structures.Goals as goal
use Rattle.ess_repr_structure_laws.proofs.MetViews.{structures-met}

pub returns : goal.returns
returns c = structures-met
