use Rattle.ess_values_sources_laws.proofs.laws.listed_sources_keep_values.Goals as goal
use Rattle.ess_values_sources_laws.proofs.ListedValues.{listed-sources-keep-values}

pub returns : goal.returns
returns c = listed-sources-keep-values
