use Rattle.ess_repr_members_laws.proofs.DeclaredMembers.{trees-declare}
use Rattle.ess_repr_members_laws.proofs.laws.declared_trees_declare.Goals as goal

pub returns : goal.returns
returns c = trees-declare
