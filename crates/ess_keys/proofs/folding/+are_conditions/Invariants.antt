use Rattle.std.proofs.Common.{length}
use Rattle.ess_keys.proofs.folding.+are_conditions.Given as goal

abbrev pub decreases-are_conditions : goal.decreases-are_conditions
decreases-are_conditions l = length l.gens.now
