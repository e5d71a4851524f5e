use Rattle.std.proofs.Common.{length}
use Rattle.ess_keys.proofs.joining.+connected.Given as goal

abbrev pub decreases-connected : goal.decreases-connected
decreases-connected l = length l.gens.now
