use Rattle.ess_repr_laws.proofs.laws.canonical_tables_are_one.Goals as goal
use Rattle.ess_repr_laws.proofs.AxesOfTables.{canonical-once}

pub returns : goal.returns
returns c = canonical-once
