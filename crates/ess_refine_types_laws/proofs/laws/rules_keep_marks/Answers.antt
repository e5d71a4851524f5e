use Rattle.ess_refine_types_laws.proofs.laws.rules_keep_marks.Goals as goal
use Rattle.ess_refine_types_laws.proofs.MarksOfContainers.{container-rules-keep-marks}

pub returns : goal.returns
returns c = container-rules-keep-marks
