use Rattle.ess_open_types_laws.proofs.laws.openings_keep_marks.Goals as goal
use Rattle.ess_open_types_laws.proofs.OpeningsKeep.{openings-keep-marks}

pub returns : goal.returns
returns c = openings-keep-marks
