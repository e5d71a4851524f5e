use Rattle.eprime_lowering_laws.proofs.Refined.{whole}
use Rattle.eprime_lowering_laws.proofs.laws.refined_trees_are_lowerable.Goals as goal

pub returns : goal.returns
returns c = whole
