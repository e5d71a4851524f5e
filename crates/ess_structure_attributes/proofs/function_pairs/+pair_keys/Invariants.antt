use Rattle.std.proofs.Common.{length}
use Rattle.ess_structure_attributes.proofs.function_pairs.+pair_keys.Given as goal

abbrev pub decreases-pair_keys : goal.decreases-pair_keys
decreases-pair_keys l = length l.marks.now
