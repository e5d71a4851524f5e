use Rattle.conjure_standing_laws.proofs.FlatTextsCome.{flat-lacks-nothing}
use Rattle.conjure_standing_laws.proofs.laws.flat_specifications_lack_nothing.Goals as goal

pub returns : goal.returns
returns c = flat-lacks-nothing
