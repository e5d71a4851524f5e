use Rattle.std.proofs.Common.{length}
use Rattle.ess_structure_attributes.proofs.relations.+relation_keys.Given as goal

abbrev pub decreases-relation_keys : goal.decreases-relation_keys
decreases-relation_keys l = length l.marks.now
