use Rattle.ess_flat_models_laws.proofs.FlatHave.{flat-specifications}
use Rattle.ess_flat_models_laws.proofs.laws.flat_specifications_have_models.Goals as goal

pub returns : goal.returns
returns c = flat-specifications
