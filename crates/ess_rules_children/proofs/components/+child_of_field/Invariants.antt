use Rattle.std.proofs.Common.{length}
use Rattle.ess_rules_children.proofs.components.+child_of_field.Given as goal

abbrev pub decreases-child_of_field : goal.decreases-child_of_field
decreases-child_of_field l = length l.names.now
