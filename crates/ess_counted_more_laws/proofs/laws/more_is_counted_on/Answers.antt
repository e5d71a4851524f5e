use Rattle.ess_counted_more_laws.proofs.laws.more_is_counted_on.Goals as goal
use Rattle.ess_counted_more_laws.proofs.MoreCounted.{more-is-counted-on}

pub returns : goal.returns
returns c = more-is-counted-on
