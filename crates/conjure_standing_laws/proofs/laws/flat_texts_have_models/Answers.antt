use Rattle.conjure_standing_laws.proofs.FlatTextsCome.{flat-texts-have-models}
use Rattle.conjure_standing_laws.proofs.laws.flat_texts_have_models.Goals as goal

pub returns : goal.returns
returns c = flat-texts-have-models
