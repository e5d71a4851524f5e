use Rattle.ess_kind_views_laws.proofs.laws.kept_views_are_listed.Goals as goal
use Rattle.ess_kind_views_laws.proofs.PartsAsked.{kept-views-are-listed}

pub returns : goal.returns
returns c = kept-views-are-listed
