use Rattle.std.proofs.Common.{length}
use Rattle.ess_guard_forms.proofs.ranges.+same_bounds.Given as goal

abbrev pub decreases-same_bounds : goal.decreases-same_bounds
decreases-same_bounds l = length l.bounds.now
