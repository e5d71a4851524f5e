use Rattle.ess_semantics.proofs.laws.parameter_fits.Goals as goal
use Rattle.ess_semantics.proofs.Verdicts.{param_verdict-Param, Param-param_verdict}

pub returns : goal.returns
returns c = λ S p. (param_verdict-Param S p, Param-param_verdict S p)
