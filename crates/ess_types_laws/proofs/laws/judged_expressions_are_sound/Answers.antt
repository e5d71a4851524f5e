use Rattle.ess_types_laws.proofs.laws.judged_expressions_are_sound.Goals as goal
use Rattle.ess_types_laws.proofs.Judged.{judged-typed}

pub returns : goal.returns
returns c = judged-typed
