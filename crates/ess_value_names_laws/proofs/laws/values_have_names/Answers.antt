use Rattle.ess_value_names_laws.proofs.PlacedNames.{values-have-names}
use Rattle.ess_value_names_laws.proofs.laws.values_have_names.Goals as goal

pub returns : goal.returns
returns c = values-have-names
