use Rattle.ess_kind_types_laws.proofs.laws.set_rules_keep_marks.Goals as goal
use Rattle.ess_kind_types_laws.proofs.SetsKeepMarks.{set-rules-keep-marks}

pub returns : goal.returns
returns c = set-rules-keep-marks
