use Rattle.ess_put_marks_laws.proofs.laws.condition_rules_keep_marks.Goals as goal
use Rattle.ess_put_marks_laws.proofs.MarksOfConditions.{condition-rules-keep-marks}

pub returns : goal.returns
returns c = condition-rules-keep-marks
