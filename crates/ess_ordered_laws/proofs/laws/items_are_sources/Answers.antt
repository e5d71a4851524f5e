use Rattle.ess_ordered_laws.proofs.laws.items_are_sources.Goals as goal
use Rattle.ess_ordered_laws.proofs.SourcesOfItems.{items-are-sources}

pub returns : goal.returns
returns c = items-are-sources
