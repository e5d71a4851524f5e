use Rattle.ess_simplify_laws.proofs.laws.simplified_trees_are_simple.Goals as goal
use Rattle.ess_simplify_laws.proofs.Forms.{simplified-simple}
use Rattle.ess_simplify_laws.proofs.Smaller.{no-larger}
use Rattle.ess_simplify_laws.proofs.KeptNodes.{simplified-from}

pub returns : goal.returns
returns c = λ e. record { form = simplified-simple e; no_larger = no-larger e; nodes = simplified-from e }
