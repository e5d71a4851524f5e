use Rattle.std.proofs.Common.{length}
use Rattle.ess_rules_gathered.proofs.parts.+others.Given as goal

abbrev pub decreases-others : goal.decreases-others
decreases-others l = length l.gens.now
