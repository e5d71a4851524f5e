use Rattle.ess_rules_laws.proofs.laws.parts_may_be_replaced.Goals as goal
use Rattle.ess_rules_laws.proofs.Replacement.{filled}

pub returns : goal.returns
returns c = λ p a b. filled a b p
