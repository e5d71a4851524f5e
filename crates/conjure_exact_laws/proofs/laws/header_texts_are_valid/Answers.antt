use Rattle.conjure_exact_laws.proofs.HeaderTexts.{header-texts-valid}
use Rattle.conjure_exact_laws.proofs.laws.header_texts_are_valid.Goals as goal

pub returns : goal.returns
returns c = header-texts-valid
