use Rattle.ess_flat_texts_laws.proofs.ReadableModels.{flat-models-are-readable}
use Rattle.ess_flat_texts_laws.proofs.laws.flat_models_are_readable.Goals as goal

pub returns : goal.returns
returns c = flat-models-are-readable
