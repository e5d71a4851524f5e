use Rattle.std.proofs.Common.{length}
use Rattle.ess_structure_attributes.proofs.functions.+flag_keys.Given as goal

abbrev pub decreases-flag_keys : goal.decreases-flag_keys
decreases-flag_keys l = length l.marks.now
