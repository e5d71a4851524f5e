use Rattle.std.proofs.Common.{length}
use Rattle.ess_rules_partitions.proofs.together.+have_number_of.Given as goal

abbrev pub decreases-have_number_of : goal.decreases-have_number_of
decreases-have_number_of l = length l.others.now
