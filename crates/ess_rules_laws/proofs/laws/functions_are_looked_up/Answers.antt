use Rattle.ess_rules_laws.proofs.laws.functions_are_looked_up.Goals as goal
use Rattle.ess_rules_laws.proofs.FunctionLookups.{function-looked}

pub returns : goal.returns
returns c = function-looked
