-- The rules of nested sets stand, by the laws of bare trees.
use Rattle.ess_seen_values_laws.proofs.ess_bare_structures_laws.NestedStructures.{nested-structures}
use Rattle.ess_bare_written_laws.proofs.Written.{bare-trees-are-written}
use Rattle.conjure_standing_laws.proofs.BareChains.{bare-trees-stay-bare}
use Rattle.conjure_standing_laws.specs.NestedLaws.{NestedRulesStand}
use Rattle.conjure_standing_laws.proofs.NestedRules.{nested-rules-by}

-- The rules that are written for a nested set say that its tables are canonical.
pub nested-rules-stand : NestedRulesStand
nested-rules-stand = nested-rules-by bare-trees-stay-bare nested-structures bare-trees-are-written
