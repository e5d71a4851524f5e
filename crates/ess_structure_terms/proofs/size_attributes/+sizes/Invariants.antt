use Rattle.std.proofs.Common.{length}
use Rattle.ess_structure_terms.proofs.size_attributes.+sizes.Given as goal

abbrev pub decreases-sizes : goal.decreases-sizes
decreases-sizes l = length l.marks.now
