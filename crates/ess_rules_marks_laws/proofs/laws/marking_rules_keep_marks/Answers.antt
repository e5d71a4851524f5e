use Rattle.ess_rules_marks_laws.proofs.laws.marking_rules_keep_marks.Goals as goal
use Rattle.ess_rules_marks_laws.proofs.MarksOfRules.{marking-rules-keep-marks}

pub returns : goal.returns
returns c = marking-rules-keep-marks
