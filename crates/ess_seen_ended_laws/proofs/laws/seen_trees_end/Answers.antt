use Rattle.ess_seen_ended_laws.proofs.Ended.{seen-ends}
use Rattle.ess_seen_ended_laws.proofs.laws.seen_trees_end.Goals as goal

pub returns : goal.returns
returns c = seen-ends
