use Rattle.std.proofs.Common.{length}
use Rattle.ess_guard_conditions.proofs.indices.+path_conditions.Given as goal

abbrev pub decreases-path_conditions : goal.decreases-path_conditions
decreases-path_conditions l = length l.path.now
