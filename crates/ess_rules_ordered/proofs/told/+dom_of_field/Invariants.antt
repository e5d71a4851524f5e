use Rattle.std.proofs.Common.{length}
use Rattle.ess_rules_ordered.proofs.told.+dom_of_field.Given as goal

abbrev pub decreases-dom_of_field : goal.decreases-dom_of_field
decreases-dom_of_field l = length l.fields.now
