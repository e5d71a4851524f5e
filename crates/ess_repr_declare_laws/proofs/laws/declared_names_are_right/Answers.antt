use Rattle.ess_repr_declare_laws.proofs.DeclaredNames.{names-are}
use Rattle.ess_repr_declare_laws.proofs.laws.declared_names_are_right.Goals as goal

pub returns : goal.returns
returns c = names-are
