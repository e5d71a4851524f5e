use Rattle.ess_letting_texts_laws.proofs.LettingTexts.{letting-texts-are-read}
use Rattle.ess_letting_texts_laws.proofs.laws.letting_texts_are_read.Goals as goal

pub returns : goal.returns
returns c = letting-texts-are-read
