use Rattle.ess_given_guard_laws.proofs.laws.guard_keeps_given.Goals as goal
use Rattle.ess_given_guard_laws.proofs.GuardKeepsGiven.{guard-keeps-given}

pub returns : goal.returns
returns c = guard-keeps-given
