use Rattle.ess_alike_laws.proofs.laws.listings_are_alike.Goals as goal
use Rattle.ess_alike_laws.proofs.AlikeListings.{listings-are-alike}

pub returns : goal.returns
returns c = listings-are-alike
