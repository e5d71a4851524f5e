use Rattle.ess_refine_laws.proofs.laws.marks_stay.Goals as goal
use Rattle.ess_refine_laws.proofs.MarksStay.{marks-stay}

pub returns : goal.returns
returns c = marks-stay
