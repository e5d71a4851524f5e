use Rattle.ess_guard_laws.proofs.laws.conditions_are_met.Goals as goal
use Rattle.ess_guard_laws.proofs.TermLaws.{told-met}

pub returns : goal.returns
returns c = told-met
