use Rattle.std.proofs.Common.{length}
use Rattle.ess_rules_ordered.proofs.told.+dom_at.Given as goal

abbrev pub decreases-dom_at : goal.decreases-dom_at
decreases-dom_at l = length l.doms.now
