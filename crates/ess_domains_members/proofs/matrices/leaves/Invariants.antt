use Rattle.std.proofs.Common.{◌≡◌, map, drop, [], ◌∷◌}
use Rattle.ess_core.specs.ValueViews.{pure_val}
use Rattle.ess_eval_domains.specs.ClosedViews.{pure_closeds}
use Rattle.ess_domains_members.specs.Leaves.{leaves}
use Rattle.ess_domains_members.proofs.matrices.leaves.Given as goal

abbrev pub invariant-loop-axis : goal.invariant-loop-axis
invariant-loop-axis l = leaves (pure_closeds l.axes) (pure_val l.val ∷ []) ≡ leaves (pure_closeds (drop l.axis-index l.axes)) (map pure_val l.level)
