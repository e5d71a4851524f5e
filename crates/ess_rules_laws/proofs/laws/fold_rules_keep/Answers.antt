use Rattle.ess_rules_laws.proofs.laws.fold_rules_keep.Goals as goal
use Rattle.ess_rules_laws.proofs.FoldRules.{alone-keeps, nothing-keeps, one-keeps, bare-keeps, term-keeps}

pub returns : goal.returns
returns c = record { over_a_condition = alone-keeps; over_nothing = nothing-keeps; over_one = one-keeps; over_one_binding = bare-keeps; over_a_term = term-keeps }
