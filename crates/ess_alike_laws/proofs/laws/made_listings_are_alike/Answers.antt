use Rattle.ess_alike_laws.proofs.laws.made_listings_are_alike.Goals as goal
use Rattle.ess_alike_laws.proofs.AlikeMade.{made-listings-are-alike}

pub returns : goal.returns
returns c = made-listings-are-alike
