use Rattle.ess_rules_laws.proofs.generic_laws.choices_keep.Goals as goal
use Rattle.ess_rules_laws.proofs.ChoiceRules.{choices-keep}

pub returns : goal.returns
returns c = choices-keep
