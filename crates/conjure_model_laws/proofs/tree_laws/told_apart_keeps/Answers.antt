use Rattle.conjure_model_laws.proofs.tree_laws.told_apart_keeps.Goals as goal
use Rattle.conjure_model_laws.proofs.ToldLaws.{names-told-apart}

pub returns : goal.returns
returns c = names-told-apart
