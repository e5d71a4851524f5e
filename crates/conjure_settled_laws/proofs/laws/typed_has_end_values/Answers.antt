use Rattle.conjure_settled_laws.proofs.laws.typed_has_end_values.Goals as goal
use Rattle.conjure_settled_laws.proofs.EndValues.{typed-has-end-values}

pub returns : goal.returns
returns c = typed-has-end-values
