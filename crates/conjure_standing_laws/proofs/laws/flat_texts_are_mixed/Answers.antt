use Rattle.conjure_standing_laws.proofs.MixedTexts.{flat-texts-are-mixed}
use Rattle.conjure_standing_laws.proofs.laws.flat_texts_are_mixed.Goals as goal

pub returns : goal.returns
returns c = flat-texts-are-mixed
