use Rattle.ess_repr_judged_laws.proofs.laws.judged_domains_are_views.Goals as goal
use Rattle.ess_repr_judged_laws.proofs.JudgedViews.{domains-judged}

pub returns : goal.returns
returns c = domains-judged
