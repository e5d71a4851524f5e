use Rattle.std.proofs.Common.{length}
use Rattle.ess_rules_ordered.proofs.lookups.+ordered_lookup.Given as goal

abbrev pub decreases-ordered_lookup : goal.decreases-ordered_lookup
decreases-ordered_lookup l = length l.names.now
