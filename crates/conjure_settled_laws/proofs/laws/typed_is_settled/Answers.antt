use Rattle.conjure_settled_laws.proofs.laws.typed_is_settled.Goals as goal
use Rattle.conjure_settled_laws.proofs.SettledStatements.{typed-is-settled}

pub returns : goal.returns
returns c = typed-is-settled
