use Rattle.conjure_alike_laws.proofs.AlikeModels.{alike-options-have-the-same-models}
use Rattle.conjure_alike_laws.proofs.laws.alike_options_have_the_same_models.Goals as goal

pub returns : goal.returns
returns c = alike-options-have-the-same-models
