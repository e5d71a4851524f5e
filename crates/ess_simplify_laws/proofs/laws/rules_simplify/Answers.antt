use Rattle.ess_simplify_laws.proofs.laws.rules_simplify.Goals as goal
use Rattle.ess_simplify_laws.proofs.Chains.{leads}

pub returns : goal.returns
returns c = leads
