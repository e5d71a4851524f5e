use Rattle.ess_open_counted_laws.proofs.laws.picks_there_keep.Goals as goal
use Rattle.ess_open_counted_laws.proofs.PicksThere.{picks-there-keep}

pub returns : goal.returns
returns c = picks-there-keep
