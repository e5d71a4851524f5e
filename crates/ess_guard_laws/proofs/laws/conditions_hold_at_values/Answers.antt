use Rattle.ess_guard_laws.proofs.laws.conditions_hold_at_values.Goals as goal
use Rattle.ess_guard_laws.proofs.TermLaws.{held}

pub returns : goal.returns
returns c = held
