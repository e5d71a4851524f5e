use Rattle.ess_repr_laws.proofs.laws.shapes_are_of_tables.Goals as goal
use Rattle.ess_repr_laws.proofs.StructureOfTables.{shapes-of-tables}

pub returns : goal.returns
returns c = shapes-of-tables
