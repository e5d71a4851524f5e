use Rattle.eprime_read_laws.proofs.laws.read_models_are_derived.Goals as goal
use Rattle.eprime_read_laws.proofs.Tails.{sound-model}

pub returns : goal.returns
returns c = sound-model
