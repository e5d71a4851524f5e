use Rattle.ess_number_rest_laws.proofs.laws.uncounted_operands_rest.Goals as goal
use Rattle.ess_number_rest_laws.proofs.Uncounted.{uncounted-operands-rest}

pub returns : goal.returns
returns c = uncounted-operands-rest
