use Rattle.ess_open_counted_laws.proofs.laws.lookups_are_counted_on.Goals as goal
use Rattle.ess_open_counted_laws.proofs.LookupsCounted.{lookups-are-counted-on}

pub returns : goal.returns
returns c = lookups-are-counted-on
