use Rattle.ess_flat_headers_laws.proofs.ChosenFlat.{chosen-are-of-the-class}
use Rattle.ess_flat_headers_laws.proofs.laws.chosen_are_of_the_class.Goals as goal

pub returns : goal.returns
returns c = chosen-are-of-the-class
