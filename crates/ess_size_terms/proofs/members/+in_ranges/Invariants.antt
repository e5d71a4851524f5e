use Rattle.std.proofs.Common.{length}
use Rattle.ess_size_terms.proofs.members.+in_ranges.Given as goal

abbrev pub decreases-in_ranges : goal.decreases-in_ranges
decreases-in_ranges l = length l.ends.now
