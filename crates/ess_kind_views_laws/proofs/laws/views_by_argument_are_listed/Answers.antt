use Rattle.ess_kind_views_laws.proofs.laws.views_by_argument_are_listed.Goals as goal
use Rattle.ess_kind_views_laws.proofs.ArgumentListings.{views-by-argument-are-listed}

pub returns : goal.returns
returns c = views-by-argument-are-listed
