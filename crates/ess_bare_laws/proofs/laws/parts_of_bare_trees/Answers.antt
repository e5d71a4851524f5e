use Rattle.ess_bare_laws.proofs.Parts.{bare-part}
use Rattle.ess_bare_laws.proofs.laws.parts_of_bare_trees.Goals as goal

pub returns : goal.returns
returns c = bare-part
