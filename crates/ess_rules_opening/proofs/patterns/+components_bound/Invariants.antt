use Rattle.std.proofs.Common.{length}
use Rattle.ess_rules_opening.proofs.patterns.+components_bound.Given as goal

abbrev pub decreases-components_bound : goal.decreases-components_bound
decreases-components_bound l = length l.pats.now
