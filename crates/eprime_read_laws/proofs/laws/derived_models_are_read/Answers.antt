use Rattle.eprime_read_laws.proofs.laws.derived_models_are_read.Goals as goal
use Rattle.eprime_read_laws.proofs.Complete.{complete-model}

pub returns : goal.returns
returns c = complete-model
