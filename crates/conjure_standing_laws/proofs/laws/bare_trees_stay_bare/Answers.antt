use Rattle.conjure_standing_laws.proofs.BareChains.{bare-trees-stay-bare}
use Rattle.conjure_standing_laws.proofs.laws.bare_trees_stay_bare.Goals as goal

pub returns : goal.returns
returns c = bare-trees-stay-bare
