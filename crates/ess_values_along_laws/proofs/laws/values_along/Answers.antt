use Rattle.ess_values_along_laws.proofs.laws.values_along.Goals as goal
use Rattle.ess_values_along_laws.proofs.ValuesAlong.{values-along}

pub returns : goal.returns
returns c = values-along
