use Rattle.ess_bare_written_laws.proofs.Written.{bare-trees-are-written}
use Rattle.ess_bare_written_laws.proofs.laws.bare_trees_are_written.Goals as goal

pub returns : goal.returns
returns c = bare-trees-are-written
