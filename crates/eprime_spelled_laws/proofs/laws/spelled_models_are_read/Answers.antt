use Rattle.eprime_spelled_laws.proofs.SpelledTexts.{spelled-models-are-read}
use Rattle.eprime_spelled_laws.proofs.laws.spelled_models_are_read.Goals as goal

pub returns : goal.returns
returns c = spelled-models-are-read
