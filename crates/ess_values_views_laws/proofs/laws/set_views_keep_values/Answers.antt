use Rattle.ess_values_views_laws.proofs.laws.set_views_keep_values.Goals as goal
use Rattle.ess_values_views_laws.proofs.SetViewsKeepValues.{set-views-keep-values}

pub returns : goal.returns
returns c = set-views-keep-values
