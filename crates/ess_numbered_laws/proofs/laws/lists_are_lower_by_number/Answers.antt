use Rattle.ess_numbered_laws.proofs.laws.lists_are_lower_by_number.Goals as goal
use Rattle.ess_numbered_laws.proofs.LowerByNumber.{lower-by-number}

pub returns : goal.returns
returns c = lower-by-number
