use Rattle.std.proofs.Common.{length}
use Rattle.ess_structure_attributes.proofs.function_pairs.+exact_size.Given as goal

abbrev pub decreases-exact_size : goal.decreases-exact_size
decreases-exact_size l = length l.marks.now
