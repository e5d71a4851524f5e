use Rattle.ess_refine_laws.proofs.laws.rules_keep_scopes.Goals as goal
use Rattle.ess_refine_laws.proofs.ScopesOfRules.{rules-keep-scopes}

pub returns : goal.returns
returns c = rules-keep-scopes
