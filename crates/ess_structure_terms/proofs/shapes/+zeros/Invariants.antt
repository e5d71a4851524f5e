use Rattle.std.proofs.Common.{length}
use Rattle.ess_structure_terms.proofs.shapes.+zeros.Given as goal

abbrev pub decreases-zeros : goal.decreases-zeros
decreases-zeros l = length l.shapes.now
