use Rattle.ess_mixed_models_laws.proofs.ClassesMixed.{classes-mixed}
use Rattle.ess_mixed_models_laws.proofs.laws.classes_are_mixed.Goals as goal

pub returns : goal.returns
returns c = classes-mixed
