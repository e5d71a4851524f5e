use Rattle.eprime_read_laws.proofs.laws.whole_models_stand_before_statements.Goals as goal
use Rattle.eprime_read_laws.proofs.Stops.{whole-model}

pub returns : goal.returns
returns c = whole-model
