use Rattle.std.proofs.Common.{length}
use Rattle.ess_core_parts.proofs.paths.+focus.Given as goal

abbrev pub decreases-focus : goal.decreases-focus
decreases-focus l = length l.path.now
