use Rattle.ess_given_offers_laws.proofs.laws.offers_are_given.Goals as goal
use Rattle.ess_given_offers_laws.proofs.GivenOffers.{given-offers}

pub returns : goal.returns
returns c = given-offers
