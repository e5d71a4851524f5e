use Rattle.ess_repr_structure_laws.proofs.laws.judged_numbers_are_numbers.Goals as goal
use Rattle.ess_repr_structure_laws.proofs.JudgedNumbers.{numbers-judged}

pub returns : goal.returns
returns c = numbers-judged
