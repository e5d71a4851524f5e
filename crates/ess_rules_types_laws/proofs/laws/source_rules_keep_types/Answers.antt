use Rattle.ess_rules_types_laws.proofs.laws.source_rules_keep_types.Goals as goal
use Rattle.ess_rules_types_laws.proofs.TypesOfTerms.{source-rules-keep-types}

pub returns : goal.returns
returns c = source-rules-keep-types
