use Rattle.ess_kind_views_laws.proofs.laws.total_trees_have_own_values.Goals as goal
use Rattle.ess_kind_views_laws.proofs.TruthsAsked.{total-own-values}

pub returns : goal.returns
returns c = total-own-values
