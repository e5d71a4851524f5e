use Rattle.ess_kind_views_laws.proofs.laws.tuple_rules_have_what_they_ask.Goals as goal
use Rattle.ess_kind_views_laws.proofs.TuplesAsked.{tuple-rules-have}

pub returns : goal.returns
returns c = tuple-rules-have
