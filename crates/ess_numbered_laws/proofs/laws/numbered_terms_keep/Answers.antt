use Rattle.ess_numbered_laws.proofs.laws.numbered_terms_keep.Goals as goal
use Rattle.ess_numbered_laws.proofs.NumberedTerms.{terms-keep}

pub returns : goal.returns
returns c = terms-keep
