use Rattle.ess_values_bindings_laws.proofs.laws.bindings_keep_values.Goals as goal
use Rattle.ess_values_bindings_laws.proofs.BindingsKeepValues.{bindings-keep-values}

pub returns : goal.returns
returns c = bindings-keep-values
