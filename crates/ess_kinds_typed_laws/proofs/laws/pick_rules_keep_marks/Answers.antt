use Rattle.ess_kinds_typed_laws.proofs.laws.pick_rules_keep_marks.Goals as goal
use Rattle.ess_kinds_typed_laws.proofs.PicksKept.{pick-rules-keep-marks}

pub returns : goal.returns
returns c = pick-rules-keep-marks
