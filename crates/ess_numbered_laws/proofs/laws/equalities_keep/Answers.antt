use Rattle.ess_numbered_laws.proofs.laws.equalities_keep.Goals as goal
use Rattle.ess_numbered_laws.proofs.EqualitiesKept.{equalities-keep}

pub returns : goal.returns
returns c = equalities-keep
