use Rattle.ess_bare_written_laws.proofs.Written.{ended-trees-are-written}
use Rattle.ess_bare_written_laws.proofs.laws.ended_trees_are_written.Goals as goal

pub returns : goal.returns
returns c = ended-trees-are-written
