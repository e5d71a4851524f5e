use Rattle.ess_repr_declare_laws.proofs.ChildLaw.{children-are}
use Rattle.ess_repr_declare_laws.proofs.laws.children_are_right.Goals as goal

pub returns : goal.returns
returns c = children-are
