use Rattle.ess_kind_multisets_laws.proofs.laws.multiset_rules_have_what_they_ask.Goals as goal
use Rattle.ess_kind_multisets_laws.proofs.MultisetsAsked.{multiset-rules-have}

pub returns : goal.returns
returns c = multiset-rules-have
