use Rattle.ess_repr_structure_laws.proofs.laws.judged_literals_fit.Goals as goal
use Rattle.ess_repr_structure_laws.proofs.JudgedLiterals.{stated-literals}

pub returns : goal.returns
returns c = stated-literals
