use Rattle.ess_open_counted_laws.proofs.laws.opens_are_counted_on.Goals as goal
use Rattle.ess_open_counted_laws.proofs.OpensCounted.{opens-are-counted-on}

pub returns : goal.returns
returns c = opens-are-counted-on c.items_are_offered_once.ensures
