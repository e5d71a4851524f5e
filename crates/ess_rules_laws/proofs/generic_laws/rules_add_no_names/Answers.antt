use Rattle.ess_rules_laws.proofs.generic_laws.rules_add_no_names.Goals as goal
use Rattle.ess_rules_laws.proofs.NamesOfRules.{rules-add-none}

pub returns : goal.returns
returns c = rules-add-none
