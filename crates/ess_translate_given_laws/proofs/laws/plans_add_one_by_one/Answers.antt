use Rattle.ess_translate_given_laws.proofs.laws.plans_add_one_by_one.Goals as goal
use Rattle.ess_translate_given_laws.proofs.ByPlans.{plans-add-one-by-one}

pub returns : goal.returns
returns c = plans-add-one-by-one
