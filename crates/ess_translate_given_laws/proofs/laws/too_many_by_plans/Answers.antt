use Rattle.ess_translate_given_laws.proofs.laws.too_many_by_plans.Goals as goal
use Rattle.ess_translate_given_laws.proofs.Counts.{too-many-by-plans}

pub returns : goal.returns
returns c = too-many-by-plans
