use Rattle.ess_kind_views_laws.proofs.laws.part_rules_have_what_they_ask.Goals as goal
use Rattle.ess_kind_views_laws.proofs.PartsAsked.{part-rules-have}

pub returns : goal.returns
returns c = part-rules-have
