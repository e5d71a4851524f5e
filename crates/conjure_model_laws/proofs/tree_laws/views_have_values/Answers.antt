use Rattle.conjure_model_laws.proofs.tree_laws.views_have_values.Goals as goal
use Rattle.conjure_model_laws.proofs.ViewValues.{views-have-values}

pub returns : goal.returns
returns c = views-have-values
