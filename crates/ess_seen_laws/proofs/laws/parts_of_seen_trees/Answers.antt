use Rattle.ess_seen_laws.proofs.Parts.{seen-part}
use Rattle.ess_seen_laws.proofs.laws.parts_of_seen_trees.Goals as goal

pub returns : goal.returns
returns c = seen-part
