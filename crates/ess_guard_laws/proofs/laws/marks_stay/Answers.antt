use Rattle.ess_guard_laws.proofs.laws.marks_stay.Goals as goal
use Rattle.std.specs.Prelude.{true, false, []}
use Rattle.ess_guard_laws.proofs.Flat.{marks-stay}

pub returns : goal.returns
returns c = λ x y e. (marks-stay false x y e [], marks-stay true x y e [])
