use Rattle.ess_rules_laws.proofs.generic_laws.made_listings_list.Goals as goal
use Rattle.ess_rules_laws.proofs.ContainerListings.{made-listings}

pub returns : goal.returns
returns c = made-listings
