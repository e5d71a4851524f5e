use Rattle.ess_rules_laws.proofs.laws.set_views_are_listed.Goals as goal
use Rattle.ess_rules_laws.proofs.OccurrenceListing.{occurrences-listed}
use Rattle.ess_rules_laws.proofs.OccurrencesInOrder.{occurrences-in_order}

pub returns : goal.returns
returns c = record { of_occurrences = occurrences-listed; occurrences_in_order = occurrences-in_order }
