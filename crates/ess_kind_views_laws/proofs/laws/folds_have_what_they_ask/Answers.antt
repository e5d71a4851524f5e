use Rattle.ess_kind_views_laws.proofs.laws.folds_have_what_they_ask.Goals as goal
use Rattle.ess_kind_views_laws.proofs.FoldsAsked.{folds-have}

pub returns : goal.returns
returns c = folds-have
