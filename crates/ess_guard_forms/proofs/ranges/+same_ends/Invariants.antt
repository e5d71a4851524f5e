use Rattle.std.proofs.Common.{length}
use Rattle.ess_guard_forms.proofs.ranges.+same_ends.Given as goal

abbrev pub decreases-same_ends : goal.decreases-same_ends
decreases-same_ends l = length l.ends.now
