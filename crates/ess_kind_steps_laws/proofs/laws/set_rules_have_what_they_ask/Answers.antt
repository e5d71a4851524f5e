use Rattle.ess_kind_steps_laws.proofs.laws.set_rules_have_what_they_ask.Goals as goal
use Rattle.ess_kind_steps_laws.proofs.SetsAsked.{set-rules-have}

pub returns : goal.returns
returns c = set-rules-have
