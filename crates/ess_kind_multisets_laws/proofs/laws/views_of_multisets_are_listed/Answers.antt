use Rattle.ess_kind_multisets_laws.proofs.laws.views_of_multisets_are_listed.Goals as goal
use Rattle.ess_kind_multisets_laws.proofs.MultisetSources.{multisets-are-listed}

pub returns : goal.returns
returns c = multisets-are-listed
