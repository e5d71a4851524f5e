use Rattle.ess_semantics.proofs.laws.booleans_have_truth_values.Goals as goal
use Rattle.ess_semantics.proofs.Truths.{boolean}

pub returns : goal.returns
returns c = boolean
