use Rattle.ess_open_counted_laws.proofs.laws.picks_are_counted_on.Goals as goal
use Rattle.ess_open_counted_laws.proofs.PicksCounted.{picks-are-counted-on}

pub returns : goal.returns
returns c = picks-are-counted-on
