use Rattle.ess_repr_laws.proofs.laws.canonical_cells_are_right.Goals as goal
use Rattle.ess_repr_laws.proofs.CanonicalForms.{right}
use Rattle.ess_repr_laws.proofs.MembersHaveTables.{roomy-covered}

pub returns : goal.returns
returns c = record { covered = roomy-covered; right = right }
