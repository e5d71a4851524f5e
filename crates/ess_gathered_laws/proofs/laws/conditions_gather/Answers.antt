use Rattle.ess_gathered_laws.proofs.laws.conditions_gather.Goals as goal
use Rattle.ess_gathered_laws.proofs.Gathering.{conditions-gather}

pub returns : goal.returns
returns c = conditions-gather
