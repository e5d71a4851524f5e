use Rattle.conjure_standing_laws.proofs.SeenLaws.{seen-trees-stay-seen}
use Rattle.conjure_standing_laws.proofs.laws.seen_trees_stay_seen.Goals as goal

pub returns : goal.returns
returns c = seen-trees-stay-seen
