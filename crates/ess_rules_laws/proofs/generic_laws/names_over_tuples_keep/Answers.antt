use Rattle.ess_rules_laws.proofs.generic_laws.names_over_tuples_keep.Goals as goal
use Rattle.ess_rules_laws.proofs.TupleNames.{names-over-tuples}

pub returns : goal.returns
returns c = names-over-tuples
