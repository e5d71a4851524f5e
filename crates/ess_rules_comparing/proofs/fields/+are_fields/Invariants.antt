use Rattle.std.proofs.Common.{length}
use Rattle.ess_rules_comparing.proofs.fields.+are_fields.Given as goal

abbrev pub decreases-are_fields : goal.decreases-are_fields
decreases-are_fields l = length l.first.now
