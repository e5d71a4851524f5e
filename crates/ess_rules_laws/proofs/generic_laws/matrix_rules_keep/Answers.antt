use Rattle.ess_rules_laws.proofs.generic_laws.matrix_rules_keep.Goals as goal
use Rattle.ess_rules_laws.proofs.MatrixRules.{matrices-keep}

pub returns : goal.returns
returns c = matrices-keep
