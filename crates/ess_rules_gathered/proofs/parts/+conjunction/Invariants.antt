use Rattle.std.proofs.Common.{length}
use Rattle.ess_rules_gathered.proofs.parts.+conjunction.Given as goal

abbrev pub decreases-conjunction : goal.decreases-conjunction
decreases-conjunction l = length l.gens.now
