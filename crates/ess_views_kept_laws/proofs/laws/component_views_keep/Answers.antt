use Rattle.ess_views_kept_laws.proofs.laws.component_views_keep.Goals as goal
use Rattle.ess_views_kept_laws.proofs.ComponentViews.{components-keep}

pub returns : goal.returns
returns c = components-keep
