use Rattle.ess_ordered_types_laws.proofs.laws.ordered_rules_keep_marks.Goals as goal
use Rattle.ess_ordered_types_laws.proofs.OrderedKeep.{ordered-rules-keep-marks}

pub returns : goal.returns
returns c = ordered-rules-keep-marks
