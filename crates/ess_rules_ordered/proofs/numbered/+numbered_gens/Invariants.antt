use Rattle.std.proofs.Common.{length}
use Rattle.ess_rules_ordered.proofs.numbered.+numbered_gens.Given as goal

abbrev pub decreases-numbered_gens : goal.decreases-numbered_gens
decreases-numbered_gens l = length l.names.now
