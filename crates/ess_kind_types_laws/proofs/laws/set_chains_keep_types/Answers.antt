use Rattle.ess_kind_types_laws.proofs.laws.set_chains_keep_types.Goals as goal
use Rattle.ess_kind_types_laws.proofs.SetChainsTyped.{set-chains-keep-types}

pub returns : goal.returns
returns c = set-chains-keep-types
