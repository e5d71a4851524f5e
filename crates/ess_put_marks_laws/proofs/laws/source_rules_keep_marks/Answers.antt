use Rattle.ess_put_marks_laws.proofs.laws.source_rules_keep_marks.Goals as goal
use Rattle.ess_put_marks_laws.proofs.MarksOfTerms.{source-rules-keep-marks}

pub returns : goal.returns
returns c = source-rules-keep-marks
