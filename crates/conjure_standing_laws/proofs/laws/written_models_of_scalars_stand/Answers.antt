use Rattle.conjure_standing_laws.proofs.FlatTexts.{written-models-of-scalars-stand}
use Rattle.conjure_standing_laws.proofs.laws.written_models_of_scalars_stand.Goals as goal

pub returns : goal.returns
returns c = written-models-of-scalars-stand
