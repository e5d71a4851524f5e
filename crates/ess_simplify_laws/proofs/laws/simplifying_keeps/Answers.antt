use Rattle.ess_simplify_laws.proofs.laws.simplifying_keeps.Goals as goal
use Rattle.ess_simplify_laws.proofs.WholeTrees.{simplifying-keeps}

pub returns : goal.returns
returns c = simplifying-keeps
