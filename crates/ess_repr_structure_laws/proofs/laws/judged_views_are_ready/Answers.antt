use Rattle.ess_repr_structure_laws.proofs.laws.judged_views_are_ready.Goals as goal
use Rattle.ess_repr_structure_laws.proofs.JudgedViews.{judged-ready}

pub returns : goal.returns
returns c = judged-ready
