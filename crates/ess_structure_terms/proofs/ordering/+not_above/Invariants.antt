use Rattle.std.proofs.Common.{length}
use Rattle.ess_structure_terms.proofs.ordering.+not_above.Given as goal

abbrev pub decreases-not_above : goal.decreases-not_above
decreases-not_above l = length l.shapes.now
