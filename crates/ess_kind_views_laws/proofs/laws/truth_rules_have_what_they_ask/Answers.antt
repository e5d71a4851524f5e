use Rattle.ess_kind_views_laws.proofs.laws.truth_rules_have_what_they_ask.Goals as goal
use Rattle.ess_kind_views_laws.proofs.TruthsAsked.{truth-rules-have}

pub returns : goal.returns
returns c = truth-rules-have
