use Rattle.ess_rules_values_laws.proofs.laws.rules_keep_values.Goals as goal
use Rattle.ess_rules_values_laws.proofs.RulesKeepValues.{rules-keep-values}

pub returns : goal.returns
returns c = rules-keep-values
