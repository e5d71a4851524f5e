use Rattle.ess_translate_ready_laws.proofs.laws.plans_are_known.Goals as goal
use Rattle.ess_translate_ready_laws.proofs.KnownPlans.{plans-are-known}

pub returns : goal.returns
returns c = plans-are-known
