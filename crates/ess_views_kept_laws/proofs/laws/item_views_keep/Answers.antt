use Rattle.ess_views_kept_laws.proofs.laws.item_views_keep.Goals as goal
use Rattle.ess_views_kept_laws.proofs.MatrixViews.{items-keep}

pub returns : goal.returns
returns c = items-keep
