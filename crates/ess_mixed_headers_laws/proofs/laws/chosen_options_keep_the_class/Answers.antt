use Rattle.ess_mixed_headers_laws.proofs.ChosenMixed.{chosen-mixed}
use Rattle.ess_mixed_headers_laws.proofs.laws.chosen_options_keep_the_class.Goals as goal

pub returns : goal.returns
returns c = chosen-mixed
