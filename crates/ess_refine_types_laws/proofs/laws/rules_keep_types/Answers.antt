use Rattle.ess_refine_types_laws.proofs.laws.rules_keep_types.Goals as goal
use Rattle.ess_refine_types_laws.proofs.TypesOfContainers.{container-rules-keep-types}

pub returns : goal.returns
returns c = container-rules-keep-types
