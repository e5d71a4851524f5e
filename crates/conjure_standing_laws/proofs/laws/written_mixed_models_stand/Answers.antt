use Rattle.conjure_standing_laws.proofs.MixedTexts.{written-mixed-models-stand}
use Rattle.conjure_standing_laws.proofs.laws.written_mixed_models_stand.Goals as goal

pub returns : goal.returns
returns c = written-mixed-models-stand
