use Rattle.conjure_standing_laws.proofs.MixedLaws.{built-mixed}
use Rattle.conjure_standing_laws.proofs.laws.built_mixed_models_are_right.Goals as goal

pub returns : goal.returns
returns c = built-mixed
