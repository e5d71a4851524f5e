use Rattle.ess_rules_laws.proofs.laws.listings_are_met.Goals as goal
use Rattle.ess_rules_laws.proofs.ListingStructures.{listings-met}

pub returns : goal.returns
returns c = listings-met
