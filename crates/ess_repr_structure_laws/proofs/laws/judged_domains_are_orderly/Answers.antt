use Rattle.ess_repr_structure_laws.proofs.laws.judged_domains_are_orderly.Goals as goal
use Rattle.ess_repr_structure_laws.proofs.OrderlyJudged.{stated-orderly}

pub returns : goal.returns
returns c = stated-orderly
