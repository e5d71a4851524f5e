use Rattle.ess_values_matrices_laws.proofs.laws.matrices_keep_values.Goals as goal
use Rattle.ess_values_matrices_laws.proofs.MatricesKeepValues.{matrices-keep-values}

pub returns : goal.returns
returns c = matrices-keep-values
