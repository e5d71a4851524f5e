use Rattle.ess_seen_progress_laws.proofs.Moving.{seen-moves}
use Rattle.ess_seen_progress_laws.proofs.laws.seen_trees_move_on.Goals as goal

pub returns : goal.returns
returns c = λ cells r e m n f. seen-moves cells n f
