use Rattle.std.proofs.Common.{length}
use Rattle.ess_rules_children.proofs.components.+child_at.Given as goal

abbrev pub decreases-child_at : goal.decreases-child_at
decreases-child_at l = length l.reprs.now
