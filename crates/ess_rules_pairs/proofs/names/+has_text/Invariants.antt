use Rattle.std.proofs.Common.{length}
use Rattle.ess_rules_pairs.proofs.names.+has_text.Given as goal

abbrev pub decreases-has_text : goal.decreases-has_text
decreases-has_text l = length l.names.now
