use Rattle.std.proofs.Common.{length}
use Rattle.ess_keys.proofs.finding.+key_under.Given as goal

abbrev pub decreases-key_under : goal.decreases-key_under
decreases-key_under l = length l.gens.now
