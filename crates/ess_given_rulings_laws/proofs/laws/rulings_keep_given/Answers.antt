use Rattle.ess_given_rulings_laws.proofs.laws.rulings_keep_given.Goals as goal
use Rattle.ess_given_rulings_laws.proofs.GivenRulings.{each-rule}

pub returns : goal.returns
returns c = each-rule
