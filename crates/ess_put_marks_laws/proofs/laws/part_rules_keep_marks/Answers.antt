use Rattle.ess_put_marks_laws.proofs.laws.part_rules_keep_marks.Goals as goal
use Rattle.ess_put_marks_laws.proofs.MarksOfOthers.{part-rules-keep-marks}

pub returns : goal.returns
returns c = part-rules-keep-marks
