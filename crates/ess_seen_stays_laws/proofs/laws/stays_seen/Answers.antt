use Rattle.ess_seen_stays_laws.proofs.Known.{types, more, puts, names}
use Rattle.ess_seen_stays_laws.proofs.Stays.{stays-seen}
use Rattle.ess_seen_stays_laws.proofs.laws.stays_seen.Goals as goal

pub returns : goal.returns
returns c = stays-seen types more puts names
