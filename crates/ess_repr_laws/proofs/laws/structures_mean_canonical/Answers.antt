use Rattle.ess_repr_laws.proofs.laws.structures_mean_canonical.Goals as goal
use Rattle.ess_repr_laws.proofs.StructureOfTables.{structure-of-tables}

pub returns : goal.returns
returns c = structure-of-tables
