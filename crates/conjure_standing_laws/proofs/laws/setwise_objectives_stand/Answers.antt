use Rattle.conjure_standing_laws.proofs.SetwiseLaws.{setwise-objectives-stand}
use Rattle.conjure_standing_laws.proofs.laws.setwise_objectives_stand.Goals as goal

pub returns : goal.returns
returns c = setwise-objectives-stand
