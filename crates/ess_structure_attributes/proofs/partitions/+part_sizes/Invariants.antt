use Rattle.std.proofs.Common.{length}
use Rattle.ess_structure_attributes.proofs.partitions.+part_sizes.Given as goal

abbrev pub decreases-part_sizes : goal.decreases-part_sizes
decreases-part_sizes l = length l.marks.now
