use Rattle.std.proofs.Common.{length}
use Rattle.ess_structure_attributes.proofs.functions.+value_keys.Given as goal

abbrev pub decreases-value_keys : goal.decreases-value_keys
decreases-value_keys l = length l.marks.now
