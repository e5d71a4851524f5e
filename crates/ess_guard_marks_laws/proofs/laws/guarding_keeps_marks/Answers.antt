use Rattle.ess_guard_marks_laws.proofs.laws.guarding_keeps_marks.Goals as goal
use Rattle.ess_guard_marks_laws.proofs.MarkLaws.{marks-stay}

pub returns : goal.returns
returns c = marks-stay c.guarded_keeps_types.ensures
