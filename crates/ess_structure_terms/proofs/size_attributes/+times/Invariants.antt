use Rattle.std.proofs.Common.{length}
use Rattle.ess_structure_terms.proofs.size_attributes.+times.Given as goal

abbrev pub decreases-times : goal.decreases-times
decreases-times l = length l.marks.now
