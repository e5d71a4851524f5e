use Rattle.ess_counted_values_laws.proofs.laws.values_are_counted_on.Goals as goal
use Rattle.ess_counted_values_laws.proofs.CountedValues.{values-are-counted-on}

pub returns : goal.returns
returns c = values-are-counted-on
