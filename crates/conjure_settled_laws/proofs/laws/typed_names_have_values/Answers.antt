use Rattle.conjure_settled_laws.proofs.laws.typed_names_have_values.Goals as goal
use Rattle.conjure_settled_laws.proofs.NamesInUse.{typed-names-have-values}

pub returns : goal.returns
returns c = typed-names-have-values
