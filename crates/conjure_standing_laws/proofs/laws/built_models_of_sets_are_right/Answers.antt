use Rattle.conjure_standing_laws.proofs.BuiltSets.{built-sets-right}
use Rattle.conjure_standing_laws.proofs.laws.built_models_of_sets_are_right.Goals as goal

pub returns : goal.returns
returns c = built-sets-right
