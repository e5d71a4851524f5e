use Rattle.std.proofs.Common.{length}
use Rattle.ess_rules_comparing.proofs.components.+equal_from.Given as goal

abbrev pub decreases-equal_from : goal.decreases-equal_from
decreases-equal_from l = length l.first.now
