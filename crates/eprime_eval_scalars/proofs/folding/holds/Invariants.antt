use Rattle.std.proofs.Common.{◌≡◌, map, drop}
use Rattle.ess_semantics.specs.Collections.{holds}
use Rattle.eprime_eval_scalars.specs.ScalarViews.{pure_scalar}
use Rattle.eprime_eval_scalars.proofs.folding.holds.Given as goal

abbrev pub invariant-loop-item : goal.invariant-loop-item
invariant-loop-item l = holds (map pure_scalar l.items) (pure_scalar l.scalar) ≡ holds (map pure_scalar (drop l.item-index l.items)) (pure_scalar l.scalar)
