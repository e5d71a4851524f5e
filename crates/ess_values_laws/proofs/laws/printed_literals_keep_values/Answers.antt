use Rattle.ess_values_laws.proofs.laws.printed_literals_keep_values.Goals as goal
use Rattle.ess_values_laws.proofs.KeptValues.{kept-value}

pub returns : goal.returns
returns c =
    λ e t v env names h. kept-value env names e t v h
