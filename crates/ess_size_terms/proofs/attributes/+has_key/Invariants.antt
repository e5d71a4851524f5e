use Rattle.std.proofs.Common.{length}
use Rattle.ess_size_terms.proofs.attributes.+has_key.Given as goal

abbrev pub decreases-has_key : goal.decreases-has_key
decreases-has_key l = length l.marks.now
