use Rattle.std.proofs.Common.{length}
use Rattle.ess_structure_attributes.proofs.multisets.+occurs.Given as goal

abbrev pub decreases-occurs : goal.decreases-occurs
decreases-occurs l = length l.marks.now
