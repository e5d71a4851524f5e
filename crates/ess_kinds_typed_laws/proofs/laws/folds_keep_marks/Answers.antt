use Rattle.ess_kinds_typed_laws.proofs.laws.folds_keep_marks.Goals as goal
use Rattle.ess_kinds_typed_laws.proofs.FoldsKeepMarks.{folds-keep-marks}

pub returns : goal.returns
returns c = folds-keep-marks
