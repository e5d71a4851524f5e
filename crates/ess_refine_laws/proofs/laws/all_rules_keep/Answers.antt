use Rattle.ess_refine_laws.proofs.laws.all_rules_keep.Goals as goal
use Rattle.ess_refine_laws.proofs.AllRules.{all-keep}

pub returns : goal.returns
returns c = all-keep
