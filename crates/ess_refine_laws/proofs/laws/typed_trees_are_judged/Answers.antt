use Rattle.ess_refine_laws.proofs.laws.typed_trees_are_judged.Goals as goal
use Rattle.ess_refine_laws.proofs.JudgedTrees.{typed-trees-are-judged}

pub returns : goal.returns
returns c = typed-trees-are-judged
