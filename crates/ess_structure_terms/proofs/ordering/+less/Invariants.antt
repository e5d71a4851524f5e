use Rattle.std.proofs.Common.{length}
use Rattle.ess_structure_terms.proofs.ordering.+less.Given as goal

abbrev pub decreases-less : goal.decreases-less
decreases-less l = length l.shapes.now
