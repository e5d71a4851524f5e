use Rattle.ess_mixed_models_laws.proofs.MixedHave.{mixed-right}
use Rattle.ess_mixed_models_laws.proofs.laws.mixed_models_are_right.Goals as goal

pub returns : goal.returns
returns c = mixed-right
