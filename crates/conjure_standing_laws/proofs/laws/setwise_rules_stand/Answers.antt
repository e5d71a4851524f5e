use Rattle.conjure_standing_laws.proofs.SetwiseLaws.{setwise-rules-stand}
use Rattle.conjure_standing_laws.proofs.laws.setwise_rules_stand.Goals as goal

pub returns : goal.returns
returns c = setwise-rules-stand
