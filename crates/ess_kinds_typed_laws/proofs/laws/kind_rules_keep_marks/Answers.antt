use Rattle.ess_kinds_typed_laws.proofs.laws.kind_rules_keep_marks.Goals as goal
use Rattle.ess_kinds_typed_laws.proofs.KindsKeepMarks.{kind-rules-keep-marks}

pub returns : goal.returns
returns c = kind-rules-keep-marks
