use Rattle.ess_setwise_laws.proofs.SetwiseLaws.{setwise-numbers-are-there}
use Rattle.ess_setwise_laws.proofs.laws.setwise_numbers_are_there.Goals as goal

pub returns : goal.returns
returns c = setwise-numbers-are-there
