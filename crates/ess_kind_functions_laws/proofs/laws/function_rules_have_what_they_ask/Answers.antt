use Rattle.ess_kind_functions_laws.proofs.laws.function_rules_have_what_they_ask.Goals as goal
use Rattle.ess_kind_functions_laws.proofs.FunctionsAsked.{function-rules-have}

pub returns : goal.returns
returns c = function-rules-have
