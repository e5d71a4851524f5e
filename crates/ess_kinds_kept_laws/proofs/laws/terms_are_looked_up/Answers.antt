use Rattle.ess_kinds_kept_laws.proofs.laws.terms_are_looked_up.Goals as goal
use Rattle.ess_kinds_kept_laws.proofs.TermsLookedUp.{terms-looked-up}

pub returns : goal.returns
returns c = terms-looked-up
