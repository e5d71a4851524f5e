use Rattle.ess_types_laws.proofs.laws.fixed_mentions_no_find.Goals as goal
use Rattle.ess_types_laws.proofs.FixedNames.{fixed-judged}

pub returns : goal.returns
returns c = fixed-judged
