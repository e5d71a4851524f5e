use Rattle.ess_numbered_scopes_laws.proofs.laws.number_rules_keep_scopes.Goals as goal
use Rattle.ess_numbered_scopes_laws.proofs.NumberedScopes.{number-rules-keep-scopes}

pub returns : goal.returns
returns c = number-rules-keep-scopes
