use Rattle.ess_kind_sizes_laws.proofs.laws.listings_of_sets_are_apart.Goals as goal
use Rattle.ess_kind_sizes_laws.proofs.ViewsBehind.{listings-of-sets-are-apart}

pub returns : goal.returns
returns c = listings-of-sets-are-apart
