use Rattle.ess_rules_laws.proofs.laws.listings_list.Goals as goal
use Rattle.ess_rules_laws.proofs.Listings.{listing-lists}

pub returns : goal.returns
returns c = listing-lists
