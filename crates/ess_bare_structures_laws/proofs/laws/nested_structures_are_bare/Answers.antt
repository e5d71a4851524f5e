use Rattle.ess_bare_structures_laws.proofs.laws.nested_structures_are_bare.Goals as goal
use Rattle.ess_bare_structures_laws.proofs.NestedStructures.{nested-structures}

pub returns : goal.returns
returns c = nested-structures
