use Rattle.ess_seen_laws.proofs.Told.{set-told}
use Rattle.ess_seen_progress_laws.proofs.Moving.{seen-moves}
use Rattle.ess_seen_settled_laws.proofs.Settled.{settled-by}
use Rattle.ess_seen_settled_laws.proofs.laws.settled_trees_are_refined.Goals as goal

pub returns : goal.returns
returns c = settled-by (λ cells r e m n f. seen-moves cells n f) (record { told_apart = λ cells r e k s j. set-told cells s j })
