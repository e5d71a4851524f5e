use Rattle.ess_seen_names_laws.proofs.NamesBelow.{names-at-parts}
use Rattle.ess_seen_names_laws.proofs.laws.names_at_parts.Goals as goal

pub returns : goal.returns
returns c = names-at-parts
