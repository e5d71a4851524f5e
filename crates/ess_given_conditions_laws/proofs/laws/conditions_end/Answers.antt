use Rattle.ess_given_conditions_laws.proofs.laws.conditions_end.Goals as goal
use Rattle.ess_given_conditions_laws.proofs.ConditionsEnd.{conditions-end}

pub returns : goal.returns
returns c = conditions-end
