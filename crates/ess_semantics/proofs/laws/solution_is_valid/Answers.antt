use Rattle.ess_semantics.proofs.laws.solution_is_valid.Goals as goal
use Rattle.ess_semantics.proofs.Verdicts.{verdict-Sol, Sol-verdict}

pub returns : goal.returns
returns c = λ S p a. (verdict-Sol S p a, Sol-verdict S p a)
