use Rattle.ess_chain_anew_laws.proofs.laws.renewed_rules_keep.Goals as goal
use Rattle.ess_chain_anew_laws.proofs.RenewedRules.{renewed-rules-keep}

pub returns : goal.returns
returns c = renewed-rules-keep
