use Rattle.ess_kinds_kept_laws.proofs.laws.views_offer.Goals as goal
use Rattle.ess_kinds_kept_laws.proofs.ViewsOffer.{views-offer}

pub returns : goal.returns
returns c = views-offer
