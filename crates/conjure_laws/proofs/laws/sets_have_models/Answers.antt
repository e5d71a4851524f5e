use Rattle.conjure_laws.proofs.laws.sets_have_models.Goals as goal
use Rattle.conjure_laws.proofs.SetModels.{models-well-typed, exact-well-typed}

pub returns : goal.returns
returns c = λ T w. (models-well-typed T w, exact-well-typed T w)
