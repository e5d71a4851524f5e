use Rattle.std.proofs.Common.{length}
use Rattle.ess_rules_comparing.proofs.fields.+equal_each.Given as goal

abbrev pub decreases-equal_each : goal.decreases-equal_each
decreases-equal_each l = length l.first.now
