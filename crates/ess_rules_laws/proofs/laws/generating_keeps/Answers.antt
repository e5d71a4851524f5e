use Rattle.ess_rules_laws.proofs.laws.generating_keeps.Goals as goal
use Rattle.ess_rules_laws.proofs.GeneratorRules.{generate-keeps}

pub returns : goal.returns
returns c = generate-keeps
