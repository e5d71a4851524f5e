use Rattle.ess_ordered_types_laws.proofs.laws.gathering_keeps_marks.Goals as goal
use Rattle.ess_ordered_types_laws.proofs.GatheringKeeps.{gathering-keeps-marks}

pub returns : goal.returns
returns c = gathering-keeps-marks
