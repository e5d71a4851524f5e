use Rattle.ess_rules_laws.proofs.laws.rewriting_keeps_the_whole.Goals as goal
use Rattle.ess_semantics.specs.Typed.{Typed}
use Rattle.ess_semantics.specs.Kept.{Kept}
use Rattle.ess_rules_laws.proofs.KeptUnder.{rewritten-kept}

pub returns : goal.returns
returns c = rewritten-kept Typed Kept (λ g a b k. k)
