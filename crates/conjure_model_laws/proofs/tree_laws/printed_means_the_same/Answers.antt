use Rattle.conjure_model_laws.proofs.tree_laws.printed_means_the_same.Goals as goal
use Rattle.conjure_model_laws.proofs.PrintedLaws.{names-printed}

pub returns : goal.returns
returns c = names-printed
