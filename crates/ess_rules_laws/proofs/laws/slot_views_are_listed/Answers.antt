use Rattle.ess_rules_laws.proofs.laws.slot_views_are_listed.Goals as goal
use Rattle.ess_rules_laws.proofs.ExplicitListing.{explicit-listed}
use Rattle.ess_rules_laws.proofs.FlagsListing.{flags-listed}
use Rattle.ess_rules_laws.proofs.MarkerListing.{marker-listed}

pub returns : goal.returns
returns c = record { of_slots_all_in_use = explicit-listed; of_slots_with_flags = flags-listed; of_slots_up_to_a_marker = marker-listed }
