use Rattle.eprime_read_laws.proofs.laws.tokens_are_one_model.Goals as goal
use Rattle.eprime_read_laws.proofs.Complete.{one-model}

pub returns : goal.returns
returns c = one-model
