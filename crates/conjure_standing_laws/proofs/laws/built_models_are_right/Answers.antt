use Rattle.conjure_standing_laws.proofs.BuiltModels.{built-models-are-right}
use Rattle.conjure_standing_laws.proofs.laws.built_models_are_right.Goals as goal

pub returns : goal.returns
returns c = built-models-are-right
