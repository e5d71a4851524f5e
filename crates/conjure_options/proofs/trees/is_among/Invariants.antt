use Rattle.std.proofs.Common.{map, take}
use Rattle.ess_core.specs.TreeViews.{pure_repr}
use Rattle.conjure_options.specs.Items.{IsAmong}
use Rattle.conjure_options.proofs.trees.is_among.Given as goal

abbrev pub invariant-loop-other : goal.invariant-loop-other
invariant-loop-other l = IsAmong (map pure_repr (take l.other-index l.trees)) (pure_repr l.tree) → ⊥
