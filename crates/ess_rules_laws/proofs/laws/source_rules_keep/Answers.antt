use Rattle.ess_rules_laws.proofs.laws.source_rules_keep.Goals as goal
use Rattle.ess_rules_laws.proofs.SourceRules.{fold_union-keeps}
use Rattle.ess_rules_laws.proofs.LiteralSources.{fold_items-keeps}

pub returns : goal.returns
returns c = record { over_a_union = fold_union-keeps; over_a_literal = fold_items-keeps }
