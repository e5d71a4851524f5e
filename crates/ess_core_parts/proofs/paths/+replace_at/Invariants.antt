use Rattle.std.proofs.Common.{length}
use Rattle.ess_core_parts.proofs.paths.+replace_at.Given as goal

abbrev pub decreases-replace_at : goal.decreases-replace_at
decreases-replace_at l = length l.path.now
