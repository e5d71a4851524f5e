use Rattle.ess_repr_structure_laws.proofs.laws.judged_structures_mean_canonical.Goals as goal
use Rattle.ess_repr_structure_laws.proofs.JudgedViews.{judged-structures}

pub returns : goal.returns
returns c = judged-structures
