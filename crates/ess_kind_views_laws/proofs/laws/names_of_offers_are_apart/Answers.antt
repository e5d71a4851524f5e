use Rattle.ess_kind_views_laws.proofs.laws.names_of_offers_are_apart.Goals as goal
use Rattle.ess_kind_views_laws.proofs.OffersApart.{offers-are-apart}

pub returns : goal.returns
returns c = offers-are-apart
