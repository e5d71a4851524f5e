use Rattle.ess_values_terms_laws.proofs.laws.terms_keep_values.Goals as goal
use Rattle.ess_values_terms_laws.proofs.TermsKeepValues.{terms-keep-values}

pub returns : goal.returns
returns c = terms-keep-values
