use Rattle.ess_guard_laws.proofs.laws.conditions_tell_values.Goals as goal
use Rattle.ess_guard_laws.proofs.TermLaws.{tells-values}

pub returns : goal.returns
returns c = tells-values
