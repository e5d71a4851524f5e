use Rattle.ess_chain_names_laws.proofs.laws.rules_keep_names.Goals as goal
use Rattle.ess_chain_names_laws.proofs.RulesKeepNames.{rules-keep-names}

pub returns : goal.returns
returns c = rules-keep-names
