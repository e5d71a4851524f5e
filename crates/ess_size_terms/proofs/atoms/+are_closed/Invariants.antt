use Rattle.std.proofs.Common.{length}
use Rattle.ess_size_terms.proofs.atoms.+are_closed.Given as goal

abbrev pub decreases-are_closed : goal.decreases-are_closed
decreases-are_closed l = length l.ends.now
