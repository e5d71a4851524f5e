use Rattle.std.proofs.Common.{length}
use Rattle.ess_guard_conditions.proofs.literals.+function_conditions.Given as goal

abbrev pub decreases-function_conditions : goal.decreases-function_conditions
decreases-function_conditions l = length l.pairs.now
