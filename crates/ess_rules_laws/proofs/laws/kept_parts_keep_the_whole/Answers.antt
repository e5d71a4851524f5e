use Rattle.ess_rules_laws.proofs.laws.kept_parts_keep_the_whole.Goals as goal
use Rattle.ess_semantics.specs.Typed.{Typed}
use Rattle.ess_rules_laws.proofs.KeptUnder.{step-under}

pub returns : goal.returns
returns c = step-under Typed
