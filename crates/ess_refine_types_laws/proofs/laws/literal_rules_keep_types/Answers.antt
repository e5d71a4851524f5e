use Rattle.ess_refine_types_laws.proofs.laws.literal_rules_keep_types.Goals as goal
use Rattle.ess_refine_types_laws.proofs.TypesOfListed.{literal-rules-keep-types}

pub returns : goal.returns
returns c = literal-rules-keep-types
