use Rattle.std.proofs.Common.{length}
use Rattle.ess_structure_attributes.proofs.partition_parts.+regular_keys.Given as goal

abbrev pub decreases-regular_keys : goal.decreases-regular_keys
decreases-regular_keys l = length l.marks.now
