use Rattle.ess_rules_laws.proofs.laws.tails_are_congruent.Goals as goal
use Rattle.ess_rules_laws.proofs.Tails.{tails-congruent}

pub returns : goal.returns
returns c = tails-congruent
