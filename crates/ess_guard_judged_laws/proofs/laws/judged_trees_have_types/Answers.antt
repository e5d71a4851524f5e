use Rattle.ess_guard_judged_laws.proofs.laws.judged_trees_have_types.Goals as goal
use Rattle.ess_guard_judged_laws.proofs.JudgedStatements.{judged-trees-typed}

pub returns : goal.returns
returns c = judged-trees-typed
