use Rattle.ess_repr_declare_laws.proofs.SizeMeaning.{bound-is}
use Rattle.ess_repr_declare_laws.proofs.laws.bounds_are_read.Goals as goal

pub returns : goal.returns
returns c = bound-is
