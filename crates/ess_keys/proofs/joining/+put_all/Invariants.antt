use Rattle.std.proofs.Common.{length}
use Rattle.ess_keys.proofs.joining.+put_all.Given as goal

abbrev pub decreases-put_all : goal.decreases-put_all
decreases-put_all l = length l.gens.now
