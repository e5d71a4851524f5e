use Rattle.ess_numbered_types_laws.proofs.laws.number_rules_keep_marks.Goals as goal
use Rattle.ess_numbered_types_laws.proofs.NumberedKeep.{number-rules-keep-marks}

pub returns : goal.returns
returns c = number-rules-keep-marks
