use Rattle.ess_gathered_names_laws.proofs.laws.gathering_keeps_names.Goals as goal
use Rattle.ess_gathered_names_laws.proofs.GatheredNames.{gathering-keeps-names}

pub returns : goal.returns
returns c = gathering-keeps-names
