use Rattle.std.proofs.Common.{◌≡◌, map, drop}
use Rattle.ess_semantics.specs.Collections.{holds}
use Rattle.ess_core.specs.ValueViews.{pure_val}
use Rattle.ess_repr_sets.proofs.members.holds.Given as goal

abbrev pub invariant-loop-item : goal.invariant-loop-item
invariant-loop-item l = holds (map pure_val l.items) (pure_val l.val) ≡ holds (map pure_val (drop l.item-index l.items)) (pure_val l.val)
