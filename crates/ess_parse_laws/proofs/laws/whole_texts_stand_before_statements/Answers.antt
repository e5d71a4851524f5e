use Rattle.ess_parse_laws.proofs.laws.whole_texts_stand_before_statements.Goals as goal
use Rattle.ess_parse_laws.proofs.WholeTexts.{whole-specification, whole-file}

pub returns : goal.returns
returns c =
    record { specifications = whole-specification; lettings = whole-file }
