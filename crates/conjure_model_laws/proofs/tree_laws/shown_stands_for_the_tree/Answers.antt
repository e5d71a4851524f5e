use Rattle.conjure_model_laws.proofs.tree_laws.shown_stands_for_the_tree.Goals as goal
use Rattle.conjure_model_laws.proofs.ShownLaws.{shown-stands}

pub returns : goal.returns
returns c = shown-stands
