use Rattle.std.proofs.Common.{length}
use Rattle.ess_size_terms.proofs.attributes.+number_of.Given as goal

abbrev pub decreases-number_of : goal.decreases-number_of
decreases-number_of l = length l.marks.now
