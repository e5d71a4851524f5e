use Rattle.ess_values_laws.proofs.laws.values_of_literals_are_spelled.Goals as goal
use Rattle.ess_values_laws.proofs.ReadBack.{readable-spelled, named-spelled}

pub returns : goal.returns
returns c =
    record { of_readable = readable-spelled; of_named = named-spelled }
