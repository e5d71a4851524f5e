use Rattle.ess_values_sources_laws.proofs.laws.sources_keep_values.Goals as goal
use Rattle.ess_values_sources_laws.proofs.SourcesKeepValues.{sources-keep-values}

pub returns : goal.returns
returns c = sources-keep-values
