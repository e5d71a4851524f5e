use Rattle.ess_seen_laws.proofs.Told.{set-told}
use Rattle.ess_seen_laws.proofs.laws.sets_stay_as_they_are.Goals as goal

pub returns : goal.returns
returns c = record { told_apart = λ cells r e k s j. set-told cells s j }
