use Rattle.std.proofs.Common.{length}
use Rattle.ess_rules_offers.proofs.lookups.+looked_up.Given as goal

abbrev pub decreases-looked_up : goal.decreases-looked_up
decreases-looked_up l = length l.names.now
