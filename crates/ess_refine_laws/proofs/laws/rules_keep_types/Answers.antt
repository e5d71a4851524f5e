use Rattle.ess_refine_laws.proofs.laws.rules_keep_types.Goals as goal
use Rattle.ess_refine_laws.proofs.TypesOfRules.{rules-keep-types}

pub returns : goal.returns
returns c = rules-keep-types
